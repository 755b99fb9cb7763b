-- Rows that put values together of operands, one after the other.
use Rattle.std.specs.Prelude.{ℕ, pos, suc, ◌≡◌, ◌≤◌, true, List, [], Option, None, Some, slice_get, slice_index_or}
use Rattle.limbo_types.specs.Types as ty
use Rattle.limbo_types.specs.Types.{Ty}
use Rattle.limbo_layout.specs.Layout.{limit}
use Rattle.limbo_typed.specs.Typed as typed
use Rattle.limbo_typed.specs.declared.operation.Operation.{Operation}
use Rattle.limbo_meaning.specs.Evaluation.{passes_on}
use Rattle.limbo_meaning.specs.Trees.{Operate}
use Rattle.core_code.specs.Code as core
use Rattle.core_code.specs.Code.{Instr}
use Rattle.core_code.specs.Machine as code
use Rattle.core_code.specs.Terms.{part_types, variant_of}
use Rattle.core_typing.specs.Held as held
use Rattle.core_typing.specs.Held.{Has, type_held, parts_in}
use Rattle.core_typing.specs.Needs.{IsClean}
use Rattle.core_typing.specs.Going.{IsTagged}
use Rattle.dis_meaning.specs.Process.{Process}
use Rattle.dis_memory.specs.Blocks.{World}
use Rattle.value_words.specs.Facts.{Facts}
use Rattle.value_frames.specs.Frames.{room_for}
use Rattle.value_follows.specs.Sides.{sides}
use Rattle.value_follows.specs.Rows.{Base, InstrGoes, RowGoes}

-- `nil` of no type in particular doesn't come to an array.
abbrev pub IsNoNilArray : (from to : Ty) → Type 0
IsNoNilArray ty.Nil (ty.ArrayOf t) = ⊥
IsNoNilArray u t = Unit {0}

module _ (m : typed.Module) where
  -- The type of a part.
  abbrev pub part_of : Ty → (part : ℕ) → Ty
  part_of t part = slice_index_or (part_types m.adts t) part ty.Nothing

  -- By what is known of slots, no operand is at this part yet, and the one that comes isn't `nil` of no type for an array.
  abbrev pub IsApt : held.Slots → Ty → (part into from : ℕ) → Type 0
  IsApt known t part into from =
      (Has (parts_in (held.slot known into)) part → ⊥)
      × ((u : Ty) → type_held (held.slot known from) ≡ Some u → IsNoNilArray u (part_of t part))

  -- The row of an operand leads so far from where it is apt.
  abbrev pub PlaceGoes : Ty → Option ℕ → (operand part into from : ℕ) → Type 0
  PlaceGoes t v j part into from =
      (k : Facts) (i : ℕ) (x : World) (p : code.Process) (q : Process) (r : (sides m).ready k i x p q) →
      slice_get p.frame.code p.frame.pc ≡ Some (core.Place t v j part into from) → IsApt r.0.stands.is.known t part into from →
      RowGoes m k i x p q

  -- A part takes no more bytes than a type may, so that their number is an int.
  abbrev pub IsSmall : Ty → (part : ℕ) → Type 0
  IsSmall t part = (room_for m.adts (part_of t part)).size ≤ limit

-- An operand behind the first moves to what is put together.
abbrev pub LaterPlacesGo : Type 0
LaterPlacesGo =
    (m : typed.Module) → Base m → (t : Ty) (v : Option ℕ) (j part into from : ℕ) → IsSmall m t part →
    PlaceGoes m t v (suc j) part into from

module _ (m : typed.Module) where
  -- By what is known of slots, nothing is put together there yet, and the operand isn't `nil` of no type for an array.
  abbrev pub IsAptFirst : held.Slots → Ty → (part into from : ℕ) → Type 0
  IsAptFirst known t part into from =
      IsClean (held.slot known into) × ((u : Ty) → type_held (held.slot known from) ≡ Some u → IsNoNilArray u (part_of m t part))

  abbrev pub FirstPlaceGoes : Ty → Option ℕ → (part into from : ℕ) → Type 0
  FirstPlaceGoes t v part into from =
      (k : Facts) (i : ℕ) (x : World) (p : code.Process) (q : Process) (r : (sides m).ready k i x p q) →
      slice_get p.frame.code p.frame.pc ≡ Some (core.Place t v 0 part into from) → IsAptFirst r.0.stands.is.known t part into from →
      RowGoes m k i x p q

-- The first operand does, once a record is made for what is put together.
abbrev pub FirstPlacesGo : Type 0
FirstPlacesGo =
    (m : typed.Module) → Base m → (t : Ty) (v : Option ℕ) (part into from : ℕ) → IsTagged m.adts t v → IsSmall m t part →
    FirstPlaceGoes m t v part into from

-- A tuple, or a value of an adt, is there, whose operands are: from then on the slot stands for it.
abbrev pub GathersGo : Type 0
GathersGo =
    (m : typed.Module) → Base m → (t : Ty) (o : Operation) (into n : ℕ) → passes_on o ≡ true →
    InstrGoes m (core.Gather t (Operate o) into (suc n))

-- One without operands is there once a record is made, where nothing is put together in its slot yet.
abbrev pub EmptyGathersGo : Type 0
EmptyGathersGo =
    (m : typed.Module) → Base m → (t : Ty) (o : Operation) (into : ℕ) → passes_on o ≡ true → IsTagged m.adts t (variant_of m.adts o) →
    (k : Facts) (i : ℕ) (x : World) (p : code.Process) (q : Process) (r : (sides m).ready k i x p q) →
    slice_get p.frame.code p.frame.pc ≡ Some (core.Gather t (Operate o) into 0) → IsClean (held.slot r.0.stands.is.known into) →
    RowGoes m k i x p q
