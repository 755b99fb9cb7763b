-- The rules of a machine's processes, for all that is said of many of them.
use Rattle.std.specs.Prelude.{ℕ, List, Option, None}
use Rattle.styx_msg.specs.declared.message.Rmsg.{Rmsg}
use Rattle.process_model.specs.Process.{Rules, Woken}
use Rattle.dis_file.specs.declared.object.Object.{Object}
use Rattle.system_model.specs.Values.{Value}
use Rattle.system_model.specs.Prints.{Request}
use Rattle.system_model.specs.Ending.{Ending}
use Rattle.dis_meaning.specs.Process.{Process}
use Rattle.dis_memory.specs.Blocks.{World}
use Rattle.dis_memory.specs.Control.{answer}
use Rattle.dis_memory.specs.Step.{step}

-- No process waits for another yet, so none is woken.
abbrev pub wake : ℕ → Option Value → World → Process → Woken World Process
wake k v x p = record { world = x; process = p }

-- No link can be lost yet: the console's server is in the program.
abbrev pub lose : ℕ → World → Option World
lose l x = None

abbrev pub rules : (limit : ℕ) → List Object → Rules World Process Value Request Rmsg Ending
rules limit objects = record { step = step limit objects; wake = wake; answer = answer; down = lose }
