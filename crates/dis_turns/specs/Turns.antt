-- A step of the one process of a machine with memory, as a turn of the whole.
use Rattle.std.specs.Prelude.{◌≡◌, ℕ, List, [], ◌∷◌, ◌++◌, Some}
use Rattle.process_model.specs.Process.{Doing, Ready, Asking, Gone, Requested, Over, released}
use Rattle.process_model.specs.Naming as model
use Rattle.process_model.specs.Machine.{obey}
use Rattle.dis_file.specs.declared.object.Object.{Object}
use Rattle.system_model.specs.Values.{Value}
use Rattle.system_model.specs.Ending.{Ended, Broken, Faulted}
use Rattle.system_model.specs.Trace.{Trace}
use Rattle.sys_print.specs.Printing.{view_request}
use Rattle.ref_heap.specs.Store.{AreHeld, outside}
use Rattle.dis_meaning.specs.Process.{Process}
use Rattle.dis_memory.specs.Blocks.{World}
use Rattle.dis_memory.specs.Naming.{naming, names}
use Rattle.dis_memory.specs.Rules.{rules}
use Rattle.dis_memory.specs.Step.{step}
use Rattle.dis_counts.specs.Counts.{Machine}
use Rattle.dis_places.specs.declared.memory.Memory.{Memory}
use Rattle.dis_places.specs.declared.process.Process as code_process
use Rattle.dis_places.specs.View.{view_process, view_world}
use Rattle.dis_places.specs.Words.{number_of}
use Rattle.dis_steps.specs.declared.outcome.Stepped.{Stepped}
use Rattle.dis_steps.specs.declared.outcome.Stepped.TheVariants as stepped
use Rattle.dis_steps.specs.Stepping.{Steps}

-- A machine of one process.
abbrev pub alone : Doing Process Value → World → Trace → Machine
alone d x told = record { processes = d ∷ []; world = x; waiters = []; trace = told }

-- How the process stands behind an instruction.
abbrev pub doing_after : Stepped → Process → Doing Process Value
doing_after stepped.Went q = Ready q
doing_after (stepped.Asked m) q = Asking q
doing_after stepped.Ended q = Gone
doing_after (stepped.Broken text) q = Gone
doing_after (stepped.Fault f) q = Gone
doing_after stepped.NoMemory q = Ready q

-- What is told of an instruction at this place of the code.
abbrev pub told_by : Stepped → (pc : ℕ) → Trace
told_by stepped.Went pc = []
told_by (stepped.Asked m) pc = Requested 0 (view_request m) ∷ []
told_by stepped.Ended pc = Over 0 Ended ∷ []
told_by (stepped.Broken text) pc = Over 0 (Broken text) ∷ []
told_by (stepped.Fault f) pc = Over 0 (Faulted (number_of f) pc) ∷ []
told_by stepped.NoMemory pc = []

-- All that is held outside of blocks is what the process refers to: counts are exact.
abbrev pub IsExact : Memory → Doing Process Value → Type 0
IsExact m d = (n : ℕ) → outside m.heap n ≡ model.names naming d n

-- The machine's next turn leads to this memory and process. Beside what the instruction told, it is told which blocks went.
pub record Obeys (limit : ℕ) (objects : List Object) (m : Memory) (p : code_process.Process) (s : Stepped) (m' : Memory)
    (p' : code_process.Process) (told : Trace) : Type 0 where
  pub gone : List ℕ
  pub turn : obey (rules limit objects) naming (alone (Ready (view_process p)) (view_world m) told) 0 (Some (view_process p))
      ≡ Some (alone (doing_after s (view_process p')) (view_world m') (told ++ told_by s p.frame.pc ++ released 0 gone))

-- Memory wasn't wanting.
abbrev pub HadMemory : Stepped → Type 0
HadMemory stepped.NoMemory = ⊥
HadMemory _ = Unit {0}

pub record StepsObey : Type 0 where
  pub held : (m : Memory) (p : code_process.Process) → IsExact m (Ready (view_process p)) → AreHeld m.heap (names (view_process p))
  pub obeys : (limit : ℕ) (objects : List Object) (m m' : Memory) (p p' : code_process.Process) (s : Stepped) → HadMemory s →
      IsExact m (Ready (view_process p)) → Steps m p s (step limit objects (view_world m) (view_process p)) m' p' →
      (told : Trace) → Obeys limit objects m p s m' p' told
  pub exact : (limit : ℕ) (objects : List Object) (m m' : Memory) (p p' : code_process.Process) (s : Stepped) →
      IsExact m (Ready (view_process p)) → Steps m p s (step limit objects (view_world m) (view_process p)) m' p' →
      IsExact m' (doing_after s (view_process p'))
