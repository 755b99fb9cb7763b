-- Processes of a program's code stand at its instructions.
use Rattle.std.specs.Prelude.{◌≡◌, ℕ, ◌<◌, List, [], ◌∷◌, length, Some, slice_get}
use Rattle.styx_msg.specs.declared.message.Rmsg.{Rmsg}
use Rattle.process_model.specs.Process.{Went, Parks, Polls, Spawns, Asks, Ends}
use Rattle.limbo_types.specs.Types.{Ty}
use Rattle.limbo_meaning.specs.Values.{Value}
use Rattle.limbo_meaning.specs.Process.{Shared}
use Rattle.limbo_meaning.specs.Program as source
use Rattle.core_code.specs.Code.{Instr, Function, Program}
use Rattle.core_code.specs.Machine.{Frame, Process, Does, frame_of, step, heard}
use Rattle.core_code.specs.Statements.{code_of}

-- A frame stands at an instruction of a function of the program, with the slots of that function; one of these is for the answer.
pub record StandsAt (program : Program) (f : Frame) : Type 0 where
  pub number : ℕ
  pub function : Function
  pub there : slice_get program.functions number ≡ Some function
  pub code : f.code ≡ function.code
  pub at : f.pc < length f.code
  pub slots : length f.slots ≡ function.slots
  pub answer : f.into < function.slots

abbrev pub AllStand : Program → List Frame → Type 0
AllStand program [] = Unit {0}
AllStand program (f ∷ fs) = StandsAt program f × AllStand program fs

-- All frames of a process do, the one that runs and those that wait.
pub record Stands (program : Program) (p : Process) : Type 0 where
  pub frame : StandsAt program p.frame
  pub below : AllStand program p.below

-- So does each process that a step leaves.
abbrev pub LeavesStanding : Program → Does → Type 0
LeavesStanding program (Went w p) = Stands program p
LeavesStanding program (Parks w branches p) = Stands program p
LeavesStanding program (Polls w branches p q) = Stands program p × Stands program q
LeavesStanding program (Spawns w child p) = Stands program child × Stands program p
LeavesStanding program (Asks w m p) = Stands program p
LeavesStanding program (Ends w how) = Unit {0}

-- The code of programs is never left: a call begins in it, steps and replies stay in it, and there is always a next instruction.
pub record CodeIsNotLeft : Type 0 where
  pub begins : (p : source.Program) (n instance : ℕ) (f : Function) (answer : Ty) (arguments : List Value) →
      slice_get (code_of p).functions n ≡ Some f → StandsAt (code_of p) (frame_of p.adts instance f answer arguments)
  pub steps : (p : source.Program) (limit : ℕ) (w : Shared) (q : Process) →
      Stands (code_of p) q → LeavesStanding (code_of p) (step limit (code_of p) w q)
  pub replies : (p : source.Program) (a : Rmsg) (w : Shared) (q : Process) →
      Stands (code_of p) q → LeavesStanding (code_of p) (heard a w q q.printing)
  pub instruction : (p : source.Program) (q : Process) → Stands (code_of p) q → (i : Instr) × (slice_get q.frame.code q.frame.pc ≡ Some i)
