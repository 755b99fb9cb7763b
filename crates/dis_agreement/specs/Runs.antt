-- Whole runs of both machines.
use Rattle.std.specs.Prelude.{ℕ, ◌≡◌, List, [], ◌∷◌, Option, Some, slice_get}
use Rattle.styx_msg.specs.declared.message.Rmsg.{Rmsg}
use Rattle.process_model.specs.Process.{Doing, Ready, Waiting, Asking, Gone, Over}
use Rattle.process_model.specs.Machine.{State, Event, turns, replay}
use Rattle.process_model.specs.Plain.{no_names}
use Rattle.process_model.specs.Law.{begins_code}
use Rattle.dis_file.specs.declared.object.Object.{Object}
use Rattle.system_model.specs.Values.{Value}
use Rattle.system_model.specs.Prints.{Request}
use Rattle.system_model.specs.Ending.{Ending, Faulted}
use Rattle.dis_meaning.specs.Words.{Found}
use Rattle.dis_meaning.specs.World as today
use Rattle.dis_meaning.specs.Rules as today_rules
use Rattle.dis_meaning.specs.Opening as today_opening
use Rattle.dis_meaning.specs.Process.{Process}
use Rattle.dis_memory.specs.Naming.{naming}
use Rattle.dis_memory.specs.Rules.{rules}
use Rattle.dis_counts.specs.Alike.{world_of}
use Rattle.dis_counts.specs.Opening.{Opened, opens, opened}
use Rattle.dis_counts.specs.Counts.{Machine, CountsAreExact, begun}
use Rattle.dis_counts.specs.Told.{Trace, told}
use Rattle.dis_agreement.specs.Agreement.{WorldsAgree, WaitsInside}

-- A state of the machine of numbers, from which nothing goes.
abbrev pub Today : Type 0
Today = State today.World Process Value Request Rmsg Ending

-- No process has faulted.
abbrev pub NoFault : Trace → Type 0
NoFault [] = Unit {0}
NoFault (Over pid (Faulted number pc) ∷ es) = ⊥
NoFault (e ∷ es) = NoFault es

-- A process, wherever it stands: a frame of it that waits for a reply runs in the one instance.
abbrev pub StandsInside : Doing Process Value → Type 0
StandsInside (Ready p) = WaitsInside p.frame.instance p.printing
StandsInside (Waiting branches p) = WaitsInside p.frame.instance p.printing
StandsInside (Asking p) = WaitsInside p.frame.instance p.printing
StandsInside Gone = Unit {0}

-- Between instructions and replies: processes are the same, each where it stands, the same was told, worlds agree, and on the machine with
-- memory a block is there exactly where something names it.
pub record StatesAgree (s : Today) (t : Machine) : Type 0 where
  pub processes : t.processes ≡ s.processes
  pub waiters : t.waiters ≡ s.waiters
  pub trace : told t.trace ≡ s.trace
  pub worlds : WorldsAgree s.world t.world
  pub counts : CountsAreExact t
  pub inside : (pid : ℕ) (d : Doing Process Value) → slice_get s.processes pid ≡ Some d → StandsInside d

-- The machine with memory comes to a state that agrees with this one.
pub record ComesTo (o : Option Machine) (last : Today) : Type 0 where
  pub after : Machine
  pub is : o ≡ Some after
  pub agrees : StatesAgree last after

-- So many instructions of a process of which none faults on the machine of numbers, with what goes behind each.
abbrev pub TurnsAgree : Type 0
TurnsAgree =
    (limit : ℕ) (objects : List Object) (pid n : ℕ) (s last : Today) (t : Machine) → StatesAgree s t →
    turns (today_rules.rules limit objects) no_names pid n s ≡ Some last → NoFault last.trace →
    ComesTo (turns (rules limit objects) naming pid n t) last

-- Each journal whose replay on the machine of numbers has no fault has a replay on the machine with memory, of which the same is told.
abbrev pub RunsAgree : Type 0
RunsAgree =
    (limit longest : ℕ) (objects : List Object) (journal : List (Event Rmsg)) (s last : Today) (t : Machine) → StatesAgree s t →
    replay (today_rules.rules limit objects) no_names longest s journal ≡ Some last → NoFault last.trace →
    ComesTo (replay (rules limit objects) naming longest t journal) last

-- From this state no journal comes to a fault on the machine of numbers.
abbrev pub NeverFaults : (limit longest : ℕ) → List Object → Today → Type 0
NeverFaults limit longest objects s =
    (journal : List (Event Rmsg)) (u : Today) → replay (today_rules.rules limit objects) no_names longest s journal ≡ Some u →
    NoFault u.trace

-- The machine of numbers comes to a state that agrees with this one.
pub record ComesAlike (o : Option Today) (last : Machine) : Type 0 where
  pub after : Today
  pub is : o ≡ Some after
  pub agrees : StatesAgree after last

-- And back: where today's machine never faults, each journal that has a replay on the machine with memory has one on today's. So what holds
-- of all that today's machine may tell, holds of all that the machine with memory may.
abbrev pub RunsReturn : Type 0
RunsReturn =
    (limit longest : ℕ) (objects : List Object) (journal : List (Event Rmsg)) (s : Today) (t last : Machine) → StatesAgree s t →
    NeverFaults limit longest objects s → replay (rules limit objects) naming longest t journal ≡ Some last →
    ComesAlike (replay (today_rules.rules limit objects) no_names longest s journal) last

-- Both begin in states that agree.
abbrev pub OpeningsAgree : Type 0
OpeningsAgree =
    (o : Object) (m : today_opening.Opened) → today_opening.opened o ≡ Some m →
    StatesAgree (begins_code m.world m.first) (begun (opens (world_of m.world) m.first))

-- So it is of a program, by its objects, from the beginning on: where no journal of it faults on today's machine, each journal that has a
-- replay on the machine with memory has one on today's, of which the same is told.
abbrev pub ProgramsRunAlike : Type 0
ProgramsRunAlike =
    (limit longest : ℕ) (o : Object) (others : List Object) (m : today_opening.Opened) (n : Opened) →
    today_opening.opened o ≡ Some m → opened o ≡ Found n →
    NeverFaults limit longest (o ∷ others) (begins_code m.world m.first) →
    (journal : List (Event Rmsg)) (last : Machine) →
    replay (rules limit (o ∷ others)) naming longest (begun n) journal ≡ Some last →
    ComesAlike (replay (today_rules.rules limit (o ∷ others)) no_names longest (begins_code m.world m.first) journal) last
