-- What a reply comes to.
use Rattle.std.specs.Prelude.{◌≡◌, Bool, true, false, [], Option}
use Rattle.process_model.specs.Process.{Went, Parks, Asks, Ends}
use Rattle.system_model.specs.Ending.{Faulted}
use Rattle.sys_print.specs.Printing.{view_request}
use Rattle.dis_memory.specs.Blocks.{World}
use Rattle.dis_memory.specs.Process.{Does}
use Rattle.dis_places.specs.declared.memory.Memory.{Memory}
use Rattle.dis_places.specs.declared.process.Asking.{Asking}
use Rattle.dis_places.specs.declared.process.Process as code
use Rattle.dis_places.specs.View.{view_process, view_world}
use Rattle.dis_places.specs.Words.{number_of}
use Rattle.dis_stores.specs.Storing.{Settles}
use Rattle.dis_calls.specs.Coming.{IsAsked}
use Rattle.dis_prints.specs.declared.heard.Heard.{Heard}
use Rattle.dis_prints.specs.declared.heard.Heard.TheVariants as heard

-- The reply does what it came to, and memory stands as after the definition's step and its cut; one that is refused lets the process
-- stand still. Of want of memory nothing is said.
abbrev pub Hears : Memory → code.Process → Heard → Does → Memory → code.Process → Type 0
Hears m p heard.Went does m' p' = (x : World) × (does ≡ Went x (view_process p')) × Settles m p x m' p'
Hears m p (heard.Asked r) does m' p' = (x : World) × (does ≡ Asks x (view_request r) (view_process p')) × Settles m p x m' p'
Hears m p (heard.Fault f) does m' p' = does ≡ Ends (view_world m) (Faulted (number_of f) p.frame.pc)
Hears m p heard.Refused does m' p' = does ≡ Parks (view_world m) [] (view_process p)
Hears m p heard.NoMemory does m' p' = Unit {0}

-- Whether a reply does nothing.
abbrev pub does_nothing : Heard → Bool
does_nothing heard.Went = false
does_nothing (heard.Asked r) = false
does_nothing _ = true

-- What is asked is a message.
abbrev pub SendsAgain : Heard → Option Asking → Type 0
SendsAgain (heard.Asked r) printing = IsAsked r printing
SendsAgain _ printing = Unit {0}
