-- A machine, as its journal has it.
use Rattle.std.specs.Prelude.{◌≡◌, ℕ, Bool, true, false, Option, None, Some, Result, Ok, Err, List, [], ◌∷◌, ◌++◌, map}
use Rattle.system_model.specs.Trace.{Trace}
use Rattle.dis_file.specs.declared.object.Object.{Object}
use Rattle.sys_print.specs.Sent.{IsSent}
use Rattle.dis_places.specs.declared.process.Asking.{Asking}
use Rattle.dis_steps.specs.Codes.{objects_of}
use Rattle.dis_machine.specs.declared.event.Event.{Event}
use Rattle.dis_machine.specs.declared.event.Event.TheVariants as event
use Rattle.dis_machine.specs.declared.machine.Machine.{Machine}
use Rattle.dis_machine.specs.declared.reply.ReplyFault.{ReplyFault}
use Rattle.dis_machine.specs.declared.reply.ReplyFault.TheVariants.{NoMemory, Refused}
use Rattle.dis_machine.specs.declared.doing.Doing.{Doing}
use Rattle.dis_machine.specs.declared.doing.Doing.TheVariants as doing
use Rattle.dis_machine.specs.declared.doing.Doing.TheVariants.{Ready}
use Rattle.dis_counts.specs.Told as traces
use Rattle.dis_code.specs.declared.code.Code.{Code}
use Rattle.dis_machine.specs.Journal.{State, happens, codes_of}
use Rattle.dis_machine.specs.Running.{state_with}
use Rattle.dis_machine.specs.Frames.{requests}
use Rattle.dis_machine.specs.Kept.{told_after, frames_on}

abbrev pub codes : Machine → List Object
codes m = objects_of m.codes.items

-- The objects that it was started with, by their base names.
abbrev pub objects_in : List (List ℕ × Code) → List (List ℕ × Object)
objects_in codes = map (λ c. (c.0, c.1.object)) codes

abbrev pub objects : Machine → List (List ℕ × Object)
objects m = objects_in m.codes.items

-- What was told so far, and the state that its journal leads to.
abbrev pub told : Machine → Trace
told m = told_after (codes m) m.journal.items m.cut

abbrev pub state : Machine → State
state m = state_with m.running (told m)

-- The frames of a link's requests that weren't handed over yet.
abbrev pub waiting : Machine → (link : ℕ) → List (List ℕ)
waiting m link = frames_on link m.outcome.outbox.items

-- The process of this number can go on.
abbrev pub CanGo : Machine → (pid : ℕ) → Type 0
CanGo m pid = (pid ≡ 1) × (m.running.doing ≡ Ready)

-- It runs the same objects, within the same limit.
abbrev pub SameProgram : (old new : Machine) → Type 0
SameProgram old new = (new.codes ≡ old.codes) × (new.limit ≡ old.limit)

-- What was asked on a link since, all of which is still to be handed over.
pub record AskedSince (old new : Machine) (link : ℕ) : Type 0 where
  pub more : List (List ℕ)
  pub asked : requests link (told new) ≡ requests link (told old) ++ more
  pub outbox : waiting new link ≡ waiting old link ++ more

-- The event happened, and is one more of the journal.
pub record Entered (old new : Machine) (e : Event) : Type 0 where
  pub journal : new.journal.items ≡ old.journal.items ++ e ∷ []
  pub asked : (link : ℕ) → AskedSince old new link
  pub same : SameProgram old new

-- Nothing happened.
pub record Unchanged (old new : Machine) : Type 0 where
  pub journal : new.journal.items ≡ old.journal.items
  pub state : state new ≡ state old
  pub outbox : (link : ℕ) → waiting new link ≡ waiting old link
  pub same : SameProgram old new

-- All but the room is the same.
pub record SameOthers (old new : Machine) : Type 0 where
  pub running : new.running ≡ old.running
  pub entered : new.entered ≡ old.entered
  pub cut : new.cut ≡ old.cut
  pub lacks : new.lacks ≡ old.lacks
  pub same : SameProgram old new

-- A reply that is refused comes back, and is no event that can happen.
abbrev pub IsRefused : Machine → (link : ℕ) → List ℕ → ReplyFault → Type 0
IsRefused m link frame NoMemory = Unit {0}
IsRefused m link frame (Refused back) = (back.items ≡ frame) × (happens (codes m) (state m) (event.Reply link frame) ≡ None)

-- Whether memory ran out.
abbrev pub wants_memory : Result (Unit {0}) ReplyFault → Bool
wants_memory (Ok u) = false
wants_memory (Err NoMemory) = true
wants_memory (Err (Refused back)) = false

-- All but the requests to be handed over is the same.
pub record OnlyOutbox (old new : Machine) : Type 0 where
  pub running : new.running ≡ old.running
  pub journal : new.journal.items ≡ old.journal.items
  pub state : state new ≡ state old
  pub cut : new.cut ≡ old.cut
  pub lacks : new.lacks ≡ old.lacks
  pub same : SameProgram old new

-- A machine that has begun: nothing happened yet, and nothing is to be handed over.
pub record HasBegun (program : List (List ℕ × Object)) (limit : ℕ) (m : Machine) : Type 0 where
  pub same : (objects m ≡ program) × (m.limit ≡ limit)
  pub codes : codes m ≡ codes_of program
  pub journal : m.journal.items ≡ []
  pub able : m.lacks ≡ false
  pub ready : m.running.doing ≡ Ready
  pub outbox : m.outcome.outbox.items ≡ []

-- Memory ran out in a quantum: nothing was told but which blocks went, and the process could still go on.
pub record Stopped (old new : Machine) : Type 0 where
  pub journal : new.journal.items ≡ old.journal.items
  pub asked : (link : ℕ) → requests link (told new) ≡ requests link (told old)
  pub told : traces.told (told new) ≡ traces.told (told old)
  pub outbox : (link : ℕ) → waiting new link ≡ waiting old link
  pub ready : new.running.doing ≡ Ready
  pub same : SameProgram old new

-- What is to be handed over to the console: as before; and where the process waits now, its request too, which is a Twrite under the tag
-- and of the length that its print knows.
abbrev pub AsksMore : (old new : List (List ℕ)) → Doing → Option Asking → Type 0
AsksMore old new doing.Ready printing = new ≡ old
AsksMore old new doing.Gone printing = new ≡ old
AsksMore old new doing.Asking None = ⊥
AsksMore old new doing.Asking (Some a) = (f : List ℕ) × (new ≡ old ++ f ∷ []) × IsSent f a.writing.tag a.writing.asked

abbrev pub Asks : (old new : Machine) → Type 0
Asks old new = AsksMore (waiting old 1) (waiting new 1) new.running.doing new.running.process.printing
