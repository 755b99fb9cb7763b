-- Rows of loops that begin, of connectives, and of returns.
use Rattle.std.specs.Prelude.{ℕ, ◌≡◌, ◌≤◌, Option, None, Some, slice_get}
use Rattle.limbo_layout.specs.Layout.{limit}
use Rattle.limbo_typed.specs.Typed as typed
use Rattle.limbo_typed.specs.declared.operation.Connective.{Connective}
use Rattle.core_code.specs.Code as core
use Rattle.core_code.specs.Machine as code
use Rattle.dis_meaning.specs.Process.{Process}
use Rattle.dis_memory.specs.Blocks.{World}
use Rattle.value_words.specs.Facts.{Facts}
use Rattle.value_frames.specs.Frames.{AsReference, Boxed, form_of, room_for}
use Rattle.value_follows.specs.Sides.{sides}
use Rattle.value_follows.specs.Rows.{Base, InstrGoes, RowGoes}
use Rattle.rows_ending.specs.Endings.{ReturnGoes}

-- The others of an initialiser begin: the loop's slot is at the first index, and nothing is in its chain.
abbrev pub StartsGo : Type 0
StartsGo = (m : typed.Module) → Base m → (loop : ℕ) → InstrGoes m (core.Start loop)

-- A connective: whether its left operand decides comes into a slot, where there is one for it; and where it does, the value is there and
-- the right operand is passed.
abbrev pub SkipsGo : Type 0
SkipsGo =
    (m : typed.Module) → Base m → (c : Connective) (into : ℕ) (decision : Option ℕ) (from passes : ℕ) →
    InstrGoes m (core.Skip c into decision from passes)

-- A return that gives a reference moves it to the slot that waits for it.
abbrev pub ReferenceReturns : Type 0
ReferenceReturns = (m : typed.Module) → Base m → (r : ℕ) → ReturnGoes m AsReference (Some r)

-- From there a return of a function whose answer has a box leads so far, where the answer takes no more bytes than a type may.
abbrev pub BoxGoes : (m : typed.Module) → (from : Option ℕ) → Type 0
BoxGoes m from =
    (k : Facts) (i : ℕ) (x : World) (p : code.Process) (q : Process) → (sides m).ready k i x p q → form_of p.frame.answer ≡ Boxed →
    (room_for m.adts p.frame.answer).size ≤ limit → slice_get p.frame.code p.frame.pc ≡ Some (core.Return from) →
    RowGoes m k i x p q

-- One that gives a big, a tuple or an adt moves it into the record that waits for it.
abbrev pub BoxReturns : Type 0
BoxReturns = (m : typed.Module) → Base m → (r : ℕ) → BoxGoes m (Some r)

-- One that gives none moves the zero of its type there.
abbrev pub ZeroReturns : Type 0
ZeroReturns = (m : typed.Module) → Base m → BoxGoes m None
