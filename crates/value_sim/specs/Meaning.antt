-- What every journal of the machine with a module's object means.
use Rattle.std.specs.Prelude.{ℕ, ◌*◌, ◌≡◌, List, [], ◌∷◌, Some}
use Rattle.styx_msg.specs.declared.message.Rmsg.{Rmsg}
use Rattle.process_model.specs.Naming.{Still}
use Rattle.process_model.specs.Shared.{SharedSides}
use Rattle.process_model.specs.Follows.{Sides}
use Rattle.process_model.specs.Passes.{through}
use Rattle.process_model.specs.Law.{EveryJournal, Paced, makers, instructions, begins_code}
use Rattle.process_model.specs.Machine.{State, Event, replay}
use Rattle.process_model.specs.Renaming.{SameTrace}
use Rattle.process_model.specs.Source.{Turn}
use Rattle.process_ways.specs.Ways.{with_ways}
use Rattle.limbo_typed.specs.Typed as typed
use Rattle.limbo_typed.specs.Sound.{Each}
use Rattle.system_model.specs.Ending.{Ending}
use Rattle.system_model.specs.Limits.{frames_limit}
use Rattle.system_model.specs.Prints.{Request}
use Rattle.system_model.specs.Values as system
use Rattle.limbo_meaning.specs.Process as source
use Rattle.limbo_meaning.specs.Process.{Shared}
use Rattle.limbo_meaning.specs.Program.{program_of}
use Rattle.limbo_meaning.specs.Runs.{Meaning, MeaningRun}
use Rattle.limbo_meaning.specs.Values.{Value}
use Rattle.core_code.specs.Machine as code
use Rattle.core_follows.specs.Follows as lower
use Rattle.dis_meaning.specs.Words.{Found}
use Rattle.dis_meaning.specs.Process.{Process}
use Rattle.dis_memory.specs.Blocks.{World}
use Rattle.dis_memory.specs.Naming.{naming}
use Rattle.dis_memory.specs.Rules as dis
use Rattle.dis_counts.specs.Opening.{Opened}
use Rattle.dis_objects.specs.Spelled.{AreSpelled}
use Rattle.value_words.specs.Facts.{Facts}
use Rattle.value_code.specs.Objects.{object_of, all_data_of}
use Rattle.value_opening.specs.Opening.{IsOfInt, TextsAreShort, AreOnce}
use Rattle.value_entry.specs.Opening.{opened_with}
use Rattle.value_entry.specs.Entry.{IsFirst, AreStrings}
use Rattle.value_follows.specs.Sides as upper
use Rattle.value_follows.specs.Rows.{place, bound}
use Rattle.rows_leading.specs.Leading.{Suits}

module _ (m : typed.Module) where
  -- The module and its three-address code, over one heap.
  abbrev pub over_values : SharedSides Shared Shared source.Process code.Process Value Request Rmsg Ending
  over_values = lower.sides frames_limit (program_of m)

  -- That code and the machine with the module's object, also on its way through the row of an instruction.
  abbrev pub over_words : Sides Facts Shared World code.Process Process Value system.Value Request Rmsg Ending
  over_words = with_ways (upper.sides m) (place m)

  -- From where both begin alike, and nothing is there that nobody names, every journal of the machine is a run of the module: the same is
  -- told, releases too, and of so many instructions of a process in a row at least one stands for a step.
  abbrev pub JournalsMean : Type 0
  JournalsMean =
      (k : Facts) (w : Shared) (x : World) (p : source.Process) (q : code.Process) (r : Process) → over_values.ready p q →
      over_words.ready k 0 x q r → over_words.worlds k w x → Still over_values.naming (over_values.naming.names p) w →
      EveryJournal (through over_values over_words) k w x p r (3 * bound m)

abbrev pub SuitingMean : Type 0
SuitingMean = (m : typed.Module) → Suits m → JournalsMean m

-- ---- whole runs

-- What else is asked of a module so that its object can be begun with: the texts that are written in it are spelled in UTF-8, and no longer
-- than strings may be; no variable begins with two values; and each number in one word of the data is an int.
pub record CanOpen (m : typed.Module) : Type 0 where
  pub spelled : AreSpelled (object_of m).items
  pub short : TextsAreShort m
  pub once : AreOnce m.initials
  pub ints : Each IsOfInt (all_data_of m)

-- A run of the module with the program's words beside a journal: its turns are the journal's instructions, each with the steps that it
-- stands for, of so many of a process in a row at least one has a step; and the same was told, through a map of what stands on the two
-- heaps.
pub record RunBeside (m : typed.Module) (words : List (List ℕ)) (init : ℕ) (journal : List (Event Rmsg))
    (t : State World Process system.Value Request Rmsg Ending) : Type 0 where
  pub turns : List Turn
  pub config : Meaning
  pub run : MeaningRun m words init turns config
  pub makers : makers turns ≡ instructions journal
  pub paced : Paced (3 * bound m) (λ j. 0) turns
  pub known : Facts
  pub told : SameTrace (upper.sides m).map known config.trace t.trace

-- There is a machine of the object of a module that suits, which gets the program's words; and each of its journals has such a run,
-- whatever its longest quantum is.
abbrev pub ModulesMean : Type 0
ModulesMean =
    (m : typed.Module) → Suits m → CanOpen m → (init : ℕ) (f : typed.Function) → IsFirst m init f → (words : List (List ℕ)) →
    AreStrings words → (o : Opened) × (opened_with (object_of m) words ≡ Found o)
    × ((longest : ℕ) (journal : List (Event Rmsg)) (t : State World Process system.Value Request Rmsg Ending) →
    replay (dis.rules frames_limit (object_of m ∷ [])) naming longest (begins_code o.world o.first) journal ≡ Some t →
    RunBeside m words init journal t)
