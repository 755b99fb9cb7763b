-- What an instruction leaves that goes on with the next one.
use Rattle.std.specs.Prelude.{◌≡◌, ℕ, suc, ◌+◌, Result, Ok, Err}
use Rattle.process_model.specs.Process.{Went}
use Rattle.ref_heap.specs.Store.{outside}
use Rattle.dis_meaning.specs.Words.{Access, Found, Raises}
use Rattle.dis_meaning.specs.Process.{Process, at_pc, with_frames}
use Rattle.dis_memory.specs.Blocks.{World}
use Rattle.dis_memory.specs.Naming.{names}
use Rattle.dis_memory.specs.Process.{Does}
use Rattle.dis_places.specs.declared.fault.Halt.{Halt}
use Rattle.dis_places.specs.declared.fault.Raise.{Raise}
use Rattle.dis_places.specs.declared.memory.Memory.{Memory}
use Rattle.dis_places.specs.declared.process.Process as code_process
use Rattle.dis_places.specs.View.{view_process}
use Rattle.dis_places.specs.Words.{raised_text, Halts}
use Rattle.dis_stores.specs.Storing.{Settles}

-- The process at its next instruction.
abbrev pub moved_on : Process → Process
moved_on p = with_frames p (at_pc p.frame (suc p.frame.pc)) p.below p.made

-- What an operation comes to: a value, or what is raised.
abbrev pub told : {S T : Type 0} → (S → T) → Result S Raise → Access T
told see (Ok s) = Found (see s)
told see (Err r) = Raises (raised_text r)

-- What others hold outside of blocks they hold, and kinds say by their numbers what they said.
pub record HoldsAlike (m : Memory) (p : code_process.Process) (m' : Memory) (p' : code_process.Process) : Type 0 where
  pub held : (n : ℕ) → outside m'.heap n + names (view_process p) n ≡ outside m.heap n + names (view_process p') n
  pub tables : m'.tables ≡ m.tables

-- The process went on, and memory stands as after the definition's step and its cut; or there is the definition's fault, or what it
-- raises.
abbrev pub Goes : Memory → code_process.Process → Result (Unit {0}) Halt → Access Does → Memory → code_process.Process → Type 0
Goes m p (Ok u) access m' p' = (x : World) × (access ≡ Found (Went x (view_process p'))) × Settles m p x m' p'
Goes m p (Err h) access m' p' = Halts h access
