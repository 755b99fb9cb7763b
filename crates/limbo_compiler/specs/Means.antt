-- What a run of a module's object owes to the module's meaning.
use Rattle.std.specs.Prelude.{ℕ, ◌≡◌, true, List, [], ◌∷◌, ◌++◌, Option, Some, None}
use Rattle.process_model.specs.Source.{Turn}
use Rattle.process_model.specs.Law.{Paced, makers, repeated}
use Rattle.limbo_typed.specs.Typed.{Module}
use Rattle.typed_meaning.specs.Program.{Routine}
use Rattle.typed_meaning.specs.Runs.{Meaning, MeaningRun}
use Rattle.typed_lower.specs.Sizes.{FrameTooLarge}
use Rattle.typed_part.specs.Part.{is_part}
use Rattle.dis_meaning.specs.Opening.{StringsSpell}
use Rattle.dis_counts.specs.Counts.{CountsAreExact}
use Rattle.dis_counts.specs.Told as traces
use Rattle.code_sim.specs.Keeps.{object_for, BeginsWith}
use Rattle.dis_machine.specs.declared.event.Event.{Event}
use Rattle.dis_machine.specs.declared.event.Event.TheVariants as event
use Rattle.dis_machine.specs.Journal.{State, fault_in, place_of, state_of, cut_events}

-- The instructions of an event and of a journal, by the places of their processes.
abbrev pub at_place : Option ℕ → (count : ℕ) → List ℕ
at_place None count = []
at_place (Some i) count = repeated i count

abbrev pub instructions_of : Event → List ℕ
instructions_of (event.Quantum pid count) = at_place (place_of pid) count
instructions_of (event.Reply link frame) = []
instructions_of (event.Down link why) = []

abbrev pub instructions : List Event → List ℕ
instructions [] = []
instructions (e ∷ es) = instructions_of e ++ instructions es

-- There is a run of the module, from its function of this number, beside the journal: its turns are the journal's instructions, in
-- their order, each with the steps of the meaning that it stands for; of any 56 turns in a row of one process at least one has a step;
-- and what was told of it, the requests, the replies, what passed and how each process ended, is what was told of the machine, but for
-- which blocks went: the values of the module are numbers, and it has none to let go.
pub record Means (m : Module) (init : ℕ) (events : List Event) (t : State) : Type 0 where
  pub turns : List Turn
  pub config : Meaning
  pub run : MeaningRun m init turns config
  pub makers : makers turns ≡ instructions events
  pub paced : Paced 56 (λ j. 0) turns
  pub told : config.trace ≡ traces.told t.trace

-- So it is of each journal of a machine of the object of a module of the part, also where memory ran out within its last quantum, and of
-- the state that it leads to. The object's strings are well-formed UTF-8, as they are wherever one is made.
abbrev pub OfJournals : (P : Module → (init : ℕ) → List Event → State → Type 0) → Type 0
OfJournals P =
    (m : Module) → is_part m ≡ true → (FrameTooLarge m → ⊥) → StringsSpell (object_for m) →
    (init : ℕ) (first : Routine) → BeginsWith m init first →
    (journal : List Event) (cut : Option ℕ) (t : State) → state_of (object_for m ∷ []) journal cut ≡ Some t →
    P m init (journal ++ cut_events cut) t

-- There is a run of the module that means it.
abbrev pub JournalsMean : Type 0
JournalsMean = OfJournals Means

-- None tells of a wrong instruction.
abbrev pub NoneFault : Type 0
NoneFault = OfJournals (λ m init events t. fault_in t.trace ≡ None)

-- A block of memory is there exactly where its count isn't 0.
abbrev pub CountsExact : Type 0
CountsExact = OfJournals (λ m init events t. CountsAreExact t)
