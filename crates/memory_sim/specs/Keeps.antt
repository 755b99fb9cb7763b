-- What the object of a module keeps of its meaning on the machine with memory.
use Rattle.std.specs.Prelude.{ℕ, ◌≡◌, List, [], ◌∷◌, Some}
use Rattle.styx_msg.specs.declared.message.Rmsg.{Rmsg}
use Rattle.process_model.specs.Source.{Turn}
use Rattle.process_model.specs.Machine.{Event, replay}
use Rattle.process_model.specs.Law.{Paced, makers, instructions}
use Rattle.limbo_typed.specs.Typed.{Module}
use Rattle.system_model.specs.Limits.{frames_limit}
use Rattle.typed_meaning.specs.Program.{Routine}
use Rattle.typed_meaning.specs.Runs.{Meaning, MeaningRun}
use Rattle.dis_meaning.specs.Words.{Found}
use Rattle.dis_memory.specs.Naming.{naming}
use Rattle.dis_memory.specs.Rules.{rules}
use Rattle.dis_counts.specs.Alike.{world_of}
use Rattle.dis_counts.specs.Opening.{Opened, opens, opened}
use Rattle.dis_counts.specs.Counts.{Machine, CountsAreExact, begun}
use Rattle.dis_agreement.specs.Runs.{NoFault}
use Rattle.dis_counts.specs.Told.{told}
use Rattle.code_sim.specs.Keeps.{object_for, BeginsWith}
use Rattle.code_sim.specs.Begins.{begins_with}

-- A run of the module beside a journal of a machine with memory: its turns are the journal's instructions, each with the steps that it
-- stands for; of any 56 turns in a row of one process at least one has a step; and the same was told, but for which blocks went, as the
-- values of the module are numbers and it has none to let go.
pub record RunWithMemory (m : Module) (init : ℕ) (journal : List (Event Rmsg)) (last : Machine) : Type 0 where
  pub turns : List Turn
  pub config : Meaning
  pub run : MeaningRun m init turns config
  pub makers : makers turns ≡ instructions journal
  pub paced : Paced 56 (λ j. 0) turns
  pub told : config.trace ≡ told last.trace

module _ (m : Module) where
  -- The machine with memory of the object, after this journal, whatever its longest quantum is.
  abbrev pub IsAfter : Opened → (longest : ℕ) → List (Event Rmsg) → Machine → Type 0
  IsAfter n longest journal last = replay (rules frames_limit (object_for m ∷ [])) naming longest (begun n) journal ≡ Some last

  -- So it is of each state that any journal leads to, where the module begins with such a function.
  abbrev pub AfterAll : (P : (init : ℕ) → List (Event Rmsg) → Machine → Type 0) → Type 0
  AfterAll P =
      (init : ℕ) (first : Routine) → BeginsWith m init first → (n : Opened) → opened (object_for m) ≡ Found n →
      (longest : ℕ) (journal : List (Event Rmsg)) (last : Machine) → IsAfter n longest journal last → P init journal last

-- The machine begins with what today's begins with; each journal of it has a run of the module; none tells of a fault; and counts are
-- exact.
pub record KeepsWithMemory (m : Module) : Type 0 where
  pub begins : opened (object_for m) ≡ Found (opens (world_of (begins_with m).world) (begins_with m).first)
  pub journals : AfterAll m (λ init journal last. RunWithMemory m init journal last)
  pub never_faults : AfterAll m (λ init journal last. NoFault last.trace)
  pub counts : AfterAll m (λ init journal last. CountsAreExact last)
