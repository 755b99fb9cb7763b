-- Rows that let references of a slot's value go, and that take a part out of it.
use Rattle.std.specs.Prelude.{ℕ, ◌≡◌, ◌≤◌, Some, slice_get}
use Rattle.limbo_types.specs.Types.{Ty}
use Rattle.limbo_layout.specs.Layout.{limit}
use Rattle.limbo_typed.specs.Typed as typed
use Rattle.core_code.specs.Code as core
use Rattle.core_code.specs.Machine as code
use Rattle.core_typing.specs.Held as held
use Rattle.core_typing.specs.Held.{type_held}
use Rattle.dis_meaning.specs.Process.{Process}
use Rattle.dis_memory.specs.Blocks.{World}
use Rattle.value_words.specs.Facts.{Facts}
use Rattle.value_frames.specs.Frames.{room_for}
use Rattle.value_follows.specs.Stands.{Ready}
use Rattle.value_follows.specs.Sides.{sides}
use Rattle.value_follows.specs.Rows.{Base, RowGoes, InstrGoes}

-- A reference of a slot's value goes: one that stands in the slot by one instruction; of a value with a record of its own the slot gets
-- another record, without that reference, by five.
abbrev pub DropsGo : Type 0
DropsGo = (m : typed.Module) → Base m → (slot number : ℕ) → InstrGoes m (core.Drop slot number)

-- The value of a slot is of a type that takes no more bytes than a type may.
abbrev pub SlotFits : (m : typed.Module) → {k : Facts} → {i : ℕ} → {x : World} → {p : code.Process} → {q : Process}
    → Ready m k i x p q → (slot : ℕ) → Type 0
SlotFits m r s = (t : Ty) → type_held (held.slot r.stands.is.known s) ≡ Some t → (room_for m.adts t).size ≤ limit

-- A part of a slot's value moves into another slot: that gets the part, and the first another record, in which the part is zero.
abbrev pub PicksGo : Type 0
PicksGo =
    (m : typed.Module) → Base m → (t : Ty) (part into from : ℕ) → (into ≡ from → ⊥) →
    (k : Facts) (i : ℕ) (x : World) (p : code.Process) (q : Process) (ready : (sides m).ready k i x p q) → SlotFits m ready.0 from →
    slice_get p.frame.code p.frame.pc ≡ Some (core.Pick t part into from) → RowGoes m k i x p q
