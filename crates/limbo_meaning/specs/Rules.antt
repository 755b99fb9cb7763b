-- The rules of a program's processes, and what they name of the heap, for all that is said of many of them.
use Rattle.std.specs.Prelude.{ℕ, Option, None}
use Rattle.styx_msg.specs.declared.message.Rmsg.{Rmsg}
use Rattle.process_model.specs.Process.{Rules, Woken}
use Rattle.process_model.specs.Naming.{Naming}
use Rattle.heap_model.specs.Joined.{heap_naming}
use Rattle.system_model.specs.Prints.{Request}
use Rattle.system_model.specs.Ending.{Ending}
use Rattle.limbo_meaning.specs.Values.{Value}
use Rattle.limbo_meaning.specs.Memory.{inside}
use Rattle.limbo_meaning.specs.Program.{Program}
use Rattle.limbo_meaning.specs.Process.{Shared, Process, process_names, table_names}
use Rattle.limbo_meaning.specs.Step.{step, answer}

-- No process waits for another yet, so none is woken.
abbrev pub wake : ℕ → Option Value → Shared → Process → Woken Shared Process
wake k v w p = record { world = w; process = p }

-- No link can be lost yet: the console's server is in the program.
abbrev pub lose : ℕ → Shared → Option Shared
lose l w = None

abbrev pub rules : (limit : ℕ) → Program → Rules Shared Process Value Request Rmsg Ending
rules limit program = record { step = step limit program; wake = wake; answer = answer; down = lose }

-- What stays of the heap is what the processes name, and what that names.
abbrev pub naming : Naming Shared Process Value
naming = heap_naming inside process_names table_names
