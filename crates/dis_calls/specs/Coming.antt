-- What an instruction comes to that may ask or end its process.
use Rattle.std.specs.Prelude.{◌≡◌, ℕ, Bool, true, false, Option, Some, None, Result, Ok, Err}
use Rattle.process_model.specs.Process.{Went, Asks, Ends}
use Rattle.system_model.specs.Ending.{Ended, Broken}
use Rattle.ref_heap.specs.Store.{outside}
use Rattle.sys_print.specs.declared.writing.Request.{Request}
use Rattle.sys_print.specs.Printing.{view_request}
use Rattle.sys_print.specs.Sent.{IsSent}
use Rattle.dis_meaning.specs.Words.{Access, Found}
use Rattle.dis_meaning.specs.Process.{Process}
use Rattle.dis_memory.specs.Blocks.{World}
use Rattle.dis_memory.specs.Process as meaning
use Rattle.dis_places.specs.declared.fault.Halt.{Halt}
use Rattle.dis_places.specs.declared.memory.Memory.{Memory}
use Rattle.dis_places.specs.declared.process.Asking.{Asking}
use Rattle.dis_places.specs.declared.process.Process as code_process
use Rattle.dis_places.specs.View.{view_process, view_world}
use Rattle.dis_places.specs.Words.{Halts}
use Rattle.dis_stores.specs.Storing.{Settles}
use Rattle.dis_calls.specs.declared.outcome.Does as code_does
use Rattle.dis_calls.specs.declared.outcome.Does.TheVariants as does

-- What an instruction does that left this world and this process.
abbrev pub effect_of : code_does.Does → World → Process → meaning.Does
effect_of does.Went y q = Went y q
effect_of (does.Asked m) y q = Asks y (view_request m) q
effect_of does.Ended y q = Ends y Ended
effect_of (does.Broken text) y q = Ends y (Broken text)

-- The instruction does what it came to, and memory stands as after the definition's step and its cut; or there is the definition's
-- fault, or what it raises.
abbrev pub Comes : Memory → code_process.Process → Result code_does.Does Halt → Access meaning.Does → Memory → code_process.Process
    → Type 0
Comes m p (Ok d) access m' p' = (x : World) × (access ≡ Found (effect_of d x (view_process p'))) × Settles m p x m' p'
Comes m p (Err h) access m' p' = Halts h access

-- Whether an instruction ends its process.
abbrev pub ends : code_does.Does → Bool
ends does.Went = false
ends (does.Asked m) = false
ends does.Ended = true
ends (does.Broken text) = true

-- Memory and process are as before, where that is so.
abbrev pub Stays : Bool → Memory → code_process.Process → Memory → code_process.Process → Type 0
Stays true m p m' p' = (m' ≡ m) × (p' ≡ p)
Stays false m p m' p' = Unit {0}

-- The process stands as it did, but for the room that its lists of frames have.
pub record StandsStill (p p' : code_process.Process) : Type 0 where
  pub process : view_process p' ≡ view_process p
  pub printing : p'.printing ≡ p.printing

-- Memory and process stand as they did, but for that room, and for how often blocks were held and let go on the way.
pub record LeftAlone (m : Memory) (p : code_process.Process) (m' : Memory) (p' : code_process.Process) : Type 0 where
  pub world : view_world m' ≡ view_world m
  pub held : (n : ℕ) → outside m'.heap n ≡ outside m.heap n
  pub tables : m'.tables ≡ m.tables
  pub process : StandsStill p p'

-- A request is a message over link 1, under the tag and with the length that the print knows that waits for its reply.
abbrev pub IsAsked : Request → Option Asking → Type 0
IsAsked m None = ⊥
IsAsked m (Some a) = (m.link ≡ 1) × IsSent m.frame.items a.writing.tag a.writing.asked

-- What is asked is a message.
abbrev pub DoesSend : code_does.Does → Option Asking → Type 0
DoesSend (does.Asked m) printing = IsAsked m printing
DoesSend _ printing = Unit {0}

abbrev pub Sends : Result code_does.Does Halt → Option Asking → Type 0
Sends (Ok d) printing = DoesSend d printing
Sends (Err h) printing = Unit {0}
