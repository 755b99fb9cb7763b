-- No journal leads a machine to the ends of the heap's counts.
use Rattle.std.specs.Prelude.{◌≡◌, ℕ, ◌^◌, ◌<◌, ◌≤◌, List, Option, Some, IfSome}
use Rattle.dis_file.specs.declared.object.Object.{Object}
use Rattle.dis_limits.specs.Limits.{IsFar, AllSized}
use Rattle.dis_machine.specs.declared.event.Event.{Event}
use Rattle.dis_machine.specs.Journal.{State, quanta, state_of}

-- The most quanta that a machine may have.
abbrev pub most_quanta : ℕ
most_quanta = 10000000

-- A quantum that want of memory cut short: how many instructions it had is a number of 32 bits. (The longest quantum has 2,048.)
abbrev pub IsCounted : Option ℕ → Type 0
IsCounted cut = IfSome cut (λ count. count < 2 ^ 32)

-- A machine runs the first of its objects. Where these are sized, and wherever a journal of so many quanta leads it, also amid a quantum
-- that was cut short, it is far from the ends of its counts.
abbrev pub MachinesStayFar : Type 0
MachinesStayFar =
    (objects : List Object) → AllSized objects → (journal : List Event) → quanta journal ≤ most_quanta →
    (cut : Option ℕ) → IsCounted cut → (t : State) → state_of objects journal cut ≡ Some t → IsFar t
