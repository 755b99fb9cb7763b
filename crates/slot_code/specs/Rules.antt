-- The rules of the processes of three-address code, for all that is said of many of them.
use Rattle.std.specs.Prelude.{ℕ, List, [], Option, None}
use Rattle.styx_msg.specs.declared.message.Rmsg.{Rmsg}
use Rattle.process_model.specs.Process.{Rules, Woken}
use Rattle.system_model.specs.Values.{Value}
use Rattle.system_model.specs.Prints.{Request}
use Rattle.system_model.specs.Ending.{Ending}
use Rattle.typed_meaning.specs.World.{World}
use Rattle.slot_code.specs.Code.{Function}
use Rattle.slot_code.specs.Machine.{Process, entered}
use Rattle.slot_code.specs.Step.{step, answer}

-- No process waits for another yet, so none is woken.
abbrev pub wake : ℕ → Option Value → World → Process → Woken World Process
wake k v w p = record { world = w; process = p }

-- No link can be lost yet: the console's server is in the program.
abbrev pub lose : ℕ → World → Option World
lose l w = None

abbrev pub rules : (limit : ℕ) → List Function → Rules World Process Value Request Rmsg Ending
rules limit functions = record { step = step limit functions; wake = wake; answer = answer; down = lose }

-- The first process, number 1: one frame, of the function that begins, which takes no arguments, in the first instance.
abbrev pub first_process : (function : ℕ) → Function → Process
first_process f g = record { number = 1; frame = entered f 0 g []; below = []; printing = None }
