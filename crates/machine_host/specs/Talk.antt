-- A run between two events, and as it ends: what the console has answered so far, and what it wrote.
use Rattle.std.specs.Prelude.{◌≡◌, ◌≢◌, ◌≤◌, ℕ, suc, ◌+◌, List, [], ◌∷◌, ◌++◌, length}
use Rattle.std.specs.Prelude.{take, Bool, false, Option, Some, None, ◌==◌, if◌then◌else◌}
use Rattle.std.specs.Io.KnownBytes.{Appends}
use Rattle.dis_places.specs.declared.process.Asking.{Asking}
use Rattle.dis_machine.specs.declared.event.Event.{Event}
use Rattle.dis_machine.specs.declared.event.Event.TheVariants as event
use Rattle.dis_machine.specs.declared.machine.Machine.{Machine}
use Rattle.dis_machine.specs.declared.doing.Doing.{Doing}
use Rattle.dis_machine.specs.declared.doing.Doing.TheVariants as doing
use Rattle.dis_machine.specs.declared.end.End.{End}
use Rattle.dis_machine.specs.Journal.{quanta}
use Rattle.dis_machine.specs.Ends.{end_of}
use Rattle.dis_machine.specs.Frames.{requests}
use Rattle.dis_machine.specs.Standing.{told, state, waiting, AsksMore}
use Rattle.console_server.specs.Console.{Serves}

-- The frame of a reply over the console's link.
abbrev pub reply_on : (link : ℕ) → List ℕ → List (List ℕ)
reply_on link frame = if link == 1 then frame ∷ [] else []

-- The console's replies in a journal, in order.
abbrev pub replies_of : List Event → List (List ℕ)
replies_of [] = []
replies_of (event.Quantum pid count ∷ es) = replies_of es
replies_of (event.Reply link frame ∷ es) = reply_on link frame ++ replies_of es
replies_of (event.Down link why ∷ es) = replies_of es

-- The console has answered all requests but the last ones, and each answer was entered. The output took what it wrote for them.
pub record Talk (m : Machine) (last : List (List ℕ)) (old now : Option (List ℕ)) (failed : Bool) : Type 0 where
  pub able : m.lacks ≡ false
  pub answered : List (List ℕ)
  pub asked : requests 1 (told m) ≡ answered ++ last
  pub bytes : List ℕ
  pub served : Serves false answered (replies_of m.journal.items) bytes failed
  pub grown : Appends old now bytes

-- The requests to be handed over are that of the print that waits, where one does.
abbrev pub Pends : Machine → Type 0
Pends m = AsksMore [] (waiting m 1) m.running.doing m.running.process.printing

-- How many bytes are left to be written, and one more, where a print waits.
abbrev pub left_of : Option Asking → ℕ
left_of None = 0
left_of (Some a) = suc (length a.writing.left.items)

abbrev pub left_in : Doing → Option Asking → ℕ
left_in doing.Ready p = 0
left_in doing.Gone p = 0
left_in doing.Asking p = left_of p

abbrev pub left : Machine → ℕ
left m = left_in m.running.doing m.running.process.printing

-- As a run ends: the console answered a first part of the requests, and these answers were entered, but perhaps for the last.
pub record Heard (m : Machine) (old now : Option (List ℕ)) (failed : Bool) : Type 0 where
  pub answered : List (List ℕ)
  pub rest : List (List ℕ)
  pub asked : requests 1 (told m) ≡ answered ++ rest
  pub answers : List (List ℕ)
  pub bytes : List ℕ
  pub served : Serves false answered answers bytes failed
  pub entered : replies_of m.journal.items ≡ take (length (replies_of m.journal.items)) answers
  pub near : length answers ≤ length (replies_of m.journal.items) + 1
  pub grown : Appends old now bytes

-- No request is to be handed over, and the process doesn't wait.
pub record Calm (m : Machine) : Type 0 where
  pub handed : waiting m 1 ≡ []
  pub free : m.running.doing ≢ doing.Asking

-- As many quanta were entered.
abbrev pub SameQuanta : (old new : Machine) → Type 0
SameQuanta old new = quanta new.journal.items ≡ quanta old.journal.items

-- The machine has ended.
abbrev pub HasEnded : Machine → Type 0
HasEnded m = (how : End) × (end_of m.lacks m.limit (quanta m.journal.items) (state m) ≡ Some how)
