-- What the object of a module keeps of its meaning.
use Rattle.std.specs.Prelude.{ℕ, ◌≡◌, List, [], ◌∷◌, Some, slice_get}
use Rattle.styx_msg.specs.declared.message.Rmsg.{Rmsg}
use Rattle.process_model.specs.Process as process
use Rattle.process_model.specs.Process.{Ends}
use Rattle.process_model.specs.Source.{Turn}
use Rattle.process_model.specs.Machine.{State, Event, replay}
use Rattle.process_model.specs.Follows.{Sides, Follows}
use Rattle.process_model.specs.Law.{Paced, makers, instructions, begins_code}
use Rattle.process_model.specs.Plain.{no_names}
use Rattle.process_model.specs.Passes.{unshared, through}
use Rattle.dis_file.specs.declared.object.Object.{Object}
use Rattle.limbo_typed.specs.Typed.{Module}
use Rattle.system_model.specs.Values.{Value}
use Rattle.system_model.specs.Prints.{Request}
use Rattle.system_model.specs.Ending.{Ending, Faulted}
use Rattle.system_model.specs.Limits.{frames_limit}
use Rattle.typed_meaning.specs.World as source
use Rattle.typed_meaning.specs.Program.{Routine, routines_of}
use Rattle.typed_meaning.specs.Process as source_process
use Rattle.typed_meaning.specs.Runs as runs
use Rattle.typed_meaning.specs.Runs.{Meaning, MeaningRun, first_world}
use Rattle.typed_lower.specs.Statements.{functions_code, module_code}
use Rattle.typed_lower.specs.Stands as lower
use Rattle.dis_meaning.specs.World.{World}
use Rattle.dis_meaning.specs.Process.{Process}
use Rattle.dis_meaning.specs.Step.{step}
use Rattle.dis_meaning.specs.Rules as dis_rules
use Rattle.dis_objects.specs.Objects.{init_of, object_of}
use Rattle.dis_follows.specs.Start.{opening, first_process}
use Rattle.dis_follows.specs.Stands as upper
use Rattle.dis_follows.specs.Laws.{at_first}

-- The object of a module.
abbrev pub object_for : Module → Object
object_for m = object_of (module_code m)

-- A module and its object: a process of one stands for one of the other where one of the three-address code stands between them.
abbrev pub sides : Module → Sides upper.Known source.World World source_process.Process Process Value Value Request Rmsg Ending
sides m = through (unshared (lower.sides (routines_of m) (functions_code m))) (upper.sides (module_code m))

-- The module begins with this function, which has this number.
pub record BeginsWith (m : Module) (init : ℕ) (first : Routine) : Type 0 where
  pub named : init_of (module_code m) ≡ Some init
  pub there : slice_get (routines_of m) init ≡ Some first

-- The object follows the meaning: whatever a process of the object does next, the module's process that it stands for does too, after
-- some steps of its own. Of any 56 instructions in a row at least one stands for a step. Both begin alike.
pub record Keeps (m : Module) : Type 0 where
  pub follows : Follows (sides m)
  pub pace : follows.bound ≡ 56
  pub begins : (init : ℕ) (first : Routine) → BeginsWith m init first
      → (sides m).ready at_first 0 (opening (module_code m)) (runs.first_process first) (first_process (module_code m))
  pub begins_in : (sides m).worlds at_first (first_world m) (opening (module_code m))

-- A run of the module beside a journal of its object: its turns are the journal's instructions, each with the steps that it stands for;
-- of any 56 turns in a row of one process at least one has a step; and the same was told.
pub record RunBeside (m : Module) (init : ℕ) (journal : List (Event Rmsg))
    (t : State World Process Value Request Rmsg Ending) : Type 0 where
  pub turns : List Turn
  pub config : Meaning
  pub run : MeaningRun m init turns config
  pub makers : makers turns ≡ instructions journal
  pub paced : Paced 56 (λ j. 0) turns
  pub told : config.trace ≡ t.trace

-- A machine of the object, after this journal, whatever its longest quantum is.
abbrev pub IsAfter : Module → (longest : ℕ) → List (Event Rmsg) → State World Process Value Request Rmsg Ending → Type 0
IsAfter m longest journal t =
    replay (dis_rules.rules frames_limit (object_for m ∷ [])) no_names longest
    (begins_code (opening (module_code m)) (first_process (module_code m))) journal ≡ Some t

-- Every journal of a machine of the object has such a run.
abbrev pub JournalsAreRuns : Module → Type 0
JournalsAreRuns m =
    (init : ℕ) (first : Routine) → BeginsWith m init first
    → (longest : ℕ) (journal : List (Event Rmsg)) (t : State World Process Value Request Rmsg Ending)
    → IsAfter m longest journal t → RunBeside m init journal t

-- After no journal is the next instruction of a process wrong.
abbrev pub NeverFaults : Module → Type 0
NeverFaults m =
    (init : ℕ) (first : Routine) → BeginsWith m init first
    → (longest : ℕ) (journal : List (Event Rmsg)) (t : State World Process Value Request Rmsg Ending)
    → IsAfter m longest journal t → (j : ℕ) (r : Process) → slice_get t.processes j ≡ Some (process.Ready r)
    → (y : World) (number pc : ℕ) → step frames_limit (object_for m ∷ []) t.world r ≡ Ends y (Faulted number pc) → ⊥
