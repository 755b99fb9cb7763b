-- What holds of every step of every source, who is left as it was and that what was told stays told; and of every machine, that
-- its waiters are those that wait.
use Rattle.std.specs.Prelude.{ℕ, ◌≡◌, List, ◌++◌, Option, Some, None, slice_get}
use Rattle.process_model.specs.Process.{Branch, Doing, Ready, Waiting, Rules}
use Rattle.process_model.specs.Choice.{Stands}
use Rattle.process_model.specs.Naming.{Naming}
use Rattle.process_model.specs.Machine.{State, Event, replay}
use Rattle.process_model.specs.Law.{begins_code}
use Rattle.process_model.specs.Source.{Config, Hears, Steps, goes, waits, meets, polls, passes, spawns, asks, ends, Run, Turn, Matched}

-- The process that is met in a step, in the two kinds of step in which one is.
abbrev pub partner_of : {W P D M A H : Type 0} {rules : Rules W P D M A H} {naming : Naming W P D} {c e : Config W P D M A H} {i : ℕ} →
    Steps rules naming c i e → Option ℕ
partner_of (meets i p branches k a j l b q at branch fit) = Some j
partner_of (polls i p w branches p' p'' k a j l b q at does branch fit) = Some j
partner_of (goes i p w p' at does) = None
partner_of (waits i p w branches p' at does) = None
partner_of (passes i p w branches p' p'' at does none) = None
partner_of (spawns i p w child p' at does) = None
partner_of (asks i p w m p' at does) = None
partner_of (ends i p w how at does) = None

-- A step of process i leaves each other process as it was, but for the one that it meets; so does a reply to process i.
pub record OthersStay (W P D M A H : Type 0) : Type 0 where
  pub step : (rules : Rules W P D M A H) (naming : Naming W P D) (c e : Config W P D M A H) (i : ℕ) (step : Steps rules naming c i e)
      (j : ℕ) (d : Doing P D) → (j ≡ i → ⊥) → (partner_of step ≡ Some j → ⊥) →
      slice_get c.processes j ≡ Some d → slice_get e.processes j ≡ Some d
  pub hears : (rules : Rules W P D M A H) (naming : Naming W P D) (c e : Config W P D M A H) (i : ℕ) (a : A) → Hears rules naming c i a e →
      (j : ℕ) (d : Doing P D) → (j ≡ i → ⊥) → slice_get c.processes j ≡ Some d → slice_get e.processes j ≡ Some d

-- Process j is another one, which waited and now goes on.
pub record Met {W P D M A H : Type 0} (c e : Config W P D M A H) (i j : ℕ) : Type 0 where
  pub other : j ≡ i → ⊥
  pub branches : List (Branch D)
  pub before : P
  pub waited : slice_get c.processes j ≡ Some (Waiting branches before)
  pub after : P
  pub goes : slice_get e.processes j ≡ Some (Ready after)

-- Whom a step meets is such a process.
abbrev pub PartnerWaited : (W P D M A H : Type 0) → Type 0
PartnerWaited W P D M A H =
    (rules : Rules W P D M A H) (naming : Naming W P D) (c e : Config W P D M A H) (i : ℕ) (step : Steps rules naming c i e)
    (j : ℕ) → partner_of step ≡ Some j → Met c e i j

-- The second list is the first, followed by some more.
pub record Extends {E : Type 0} (before after : List E) : Type 0 where
  pub more : List E
  pub same : after ≡ before ++ more

-- What was told stays told: a step only adds to the trace, and so do a reply and a run.
pub record TraceGrows (W P D M A H : Type 0) : Type 0 where
  pub step : (rules : Rules W P D M A H) (naming : Naming W P D) (c e : Config W P D M A H) (i : ℕ) →
      Steps rules naming c i e → Extends c.trace e.trace
  pub hears : (rules : Rules W P D M A H) (naming : Naming W P D) (c e : Config W P D M A H) (i : ℕ) (a : A) →
      Hears rules naming c i a e → Extends c.trace e.trace
  pub run : (rules : Rules W P D M A H) (naming : Naming W P D) (c e : Config W P D M A H) (i n : ℕ) →
      Run rules naming i c n e → Extends c.trace e.trace
  pub matched : (rules : Rules W P D M A H) (naming : Naming W P D) (c e : Config W P D M A H) (turns : List Turn) →
      Matched rules naming c turns e → Extends c.trace e.trace

-- The list of waiters has the processes that wait, each with its table, and no others.
pub record WaitersWait {W P D M A H : Type 0} (s : State W P D M A H) : Type 0 where
  pub waits : (j : ℕ) (branches : List (Branch D)) →
      Stands s.waiters j branches → (p : P) × (slice_get s.processes j ≡ Some (Waiting branches p))
  pub listed : (j : ℕ) (branches : List (Branch D)) (p : P) →
      slice_get s.processes j ≡ Some (Waiting branches p) → Stands s.waiters j branches

-- So it is when a machine opens, and after every journal.
pub record WaitersKept (W P D M A H : Type 0) : Type 0 where
  pub opening : (w : W) (p : P) → WaitersWait {M = M} {A = A} {H = H} (begins_code {D = D} w p)
  pub after : (rules : Rules W P D M A H) (naming : Naming W P D) (longest : ℕ) (journal : List (Event A)) (s t : State W P D M A H) →
      WaitersWait s → replay rules naming longest s journal ≡ Some t → WaitersWait t
