-- The rules of a module's processes, for all that is said of many of them.
use Rattle.std.specs.Prelude.{ℕ, List, Option, None}
use Rattle.styx_msg.specs.declared.message.Rmsg.{Rmsg}
use Rattle.process_model.specs.Process.{Rules, Woken}
use Rattle.system_model.specs.Values.{Value}
use Rattle.system_model.specs.Prints.{Request}
use Rattle.system_model.specs.Ending.{Ending}
use Rattle.typed_meaning.specs.World.{World}
use Rattle.typed_meaning.specs.Program.{Routine}
use Rattle.typed_meaning.specs.Process.{Process}
use Rattle.typed_meaning.specs.Step.{step, answer}

-- No process waits for another yet, so none is woken.
abbrev pub wake : ℕ → Option Value → World → Process → Woken World Process
wake k v w p = record { world = w; process = p }

-- No link can be lost yet: the console's server is in the program.
abbrev pub lose : ℕ → World → Option World
lose l w = None

abbrev pub rules : (limit : ℕ) → List Routine → Rules World Process Value Request Rmsg Ending
rules limit routines = record { step = step limit routines; wake = wake; answer = answer; down = lose }
