-- Rows of arrays, lists and channels.
use Rattle.std.specs.Prelude.{ℕ, ◌≡◌, ◌⊎◌, Bool, List, Option, None, Some, slice_get}
use Rattle.limbo_types.specs.Types.{Ty}
use Rattle.limbo_typed.specs.Typed as typed
use Rattle.limbo_typed.specs.declared.operation.Operation.{Operation}
use Rattle.limbo_typed.specs.declared.operation.Operation.TheVariants.{Cons, Distinct, Head, Identical, Length, NewArray, Slice, Tag, Tail}
use Rattle.limbo_typed.specs.declared.operation.Sequence.TheVariants as sequence
use Rattle.limbo_meaning.specs.Operations.{item_of}
use Rattle.limbo_meaning.specs.Places.{operand}
use Rattle.limbo_meaning.specs.Trees.{Work, NewChannel, Operate}
use Rattle.limbo_meaning.specs.Values.{Value, Ref, Array}
use Rattle.core_code.specs.Code as core
use Rattle.core_code.specs.Machine as code
use Rattle.core_code.specs.Slots.{values_of}
use Rattle.core_typing.specs.Going.{MayCompare}
use Rattle.dis_meaning.specs.Process.{Process}
use Rattle.dis_memory.specs.Blocks.{World}
use Rattle.value_words.specs.Facts.{Facts}
use Rattle.value_code.specs.Operands.{first_slot, second_slot}
use Rattle.value_follows.specs.Stands.{Ready}
use Rattle.value_follows.specs.Sides.{sides}
use Rattle.value_follows.specs.Rows.{Base, InstrGoes, RowGoes}
use Rattle.rows_moving.specs.Rows.{IsSimple}

-- What is behind the first cell of a list comes into a slot; `nil` has none, and both processes end as broken.
abbrev pub TailsGo : Type 0
TailsGo = (m : typed.Module) → Base m → (t : Ty) (into : ℕ) (from : List ℕ) → InstrGoes m (core.Give t (Operate Tail) into from)

-- So does the item of the first cell, where it is a number or a reference.
abbrev pub HeadsGo : Type 0
HeadsGo =
    (m : typed.Module) → Base m → (t : Ty) (into : ℕ) (from : List ℕ) → IsSimple t → InstrGoes m (core.Give t (Operate Head) into from)

-- The machine tells whether two references are one by the blocks that they refer to. Two parts of one array that begin and end alike may
-- have a block each, so of two arrays one has to be nothing.
abbrev pub AreComparable : Value → Value → Type 0
AreComparable (Ref a) (Ref c) = Unit {0}
AreComparable (Array None) (Array c) = Unit {0}
AreComparable (Array (Some a)) (Array None) = Unit {0}
AreComparable v u = ⊥

-- Whether two references are one comes into a slot, where they may be compared so.
abbrev pub ComparesReferences : Work → Type 0
ComparesReferences o =
    (m : typed.Module) → Base m → (t : Ty) (into : ℕ) (from : List ℕ) (k : Facts) (i : ℕ) (x : World) (p : code.Process) (q : Process) →
    (sides m).ready k i x p q → slice_get p.frame.code p.frame.pc ≡ Some (core.Give t o into from) →
    AreComparable (operand 0 (values_of p.frame.slots from)) (operand 1 (values_of p.frame.slots from)) → RowGoes m k i x p q

-- By what is known of slots it is so where neither has an array, or both do, of which one names nothing.
abbrev pub KnownComparable : Type 0
KnownComparable =
    (m : typed.Module) (o : Operation) → (o ≡ Identical) ⊎ (o ≡ Distinct) → (t : Ty) (into : ℕ) (from : List ℕ) (k : Facts) (i : ℕ)
    (x : World) (p : code.Process) (q : Process) (r : Ready m k i x p q) →
    slice_get p.frame.code p.frame.pc ≡ Some (core.Give t (Operate o) into from) →
    MayCompare r.stands.is.known (first_slot from) (second_slot from) →
    AreComparable (operand 0 (values_of p.frame.slots from)) (operand 1 (values_of p.frame.slots from))

abbrev pub IdenticalsGo : Type 0
IdenticalsGo = ComparesReferences (Operate Identical)

abbrev pub DistinctsGo : Type 0
DistinctsGo = ComparesReferences (Operate Distinct)

-- The number of the variant to which a `ref` leads does; `nil` leads to none.
abbrev pub TagsGo : Type 0
TagsGo = (m : typed.Module) → Base m → (t : Ty) (into : ℕ) (from : List ℕ) → InstrGoes m (core.Give t (Operate Tag) into from)

-- A new channel comes into a slot.
abbrev pub ChannelsGo : Type 0
ChannelsGo = (m : typed.Module) → Base m → (t : Ty) (into : ℕ) (from : List ℕ) → InstrGoes m (core.Give t NewChannel into from)

-- A list with an item more in front comes into a slot, where the item is a number or a reference. It may not be the slot that has the item,
-- since the list comes there first.
abbrev pub ConsesGo : Type 0
ConsesGo =
    (m : typed.Module) → Base m → (t : Ty) (into : ℕ) (from : List ℕ) → IsSimple (item_of t) → (first_slot from ≡ into → ⊥) →
    InstrGoes m (core.Give t (Operate Cons) into from)

-- So does a cell of a list that is written, in front of another one or as the last.
abbrev pub CellsGo : Type 0
CellsGo =
    (m : typed.Module) → Base m → (t : Ty) (into item : ℕ) (back : Option ℕ) → IsSimple t → (item ≡ into → ⊥) →
    InstrGoes m (core.Cell t into item back)

-- A new array comes into a slot, or its size is none that arrays have.
abbrev pub ArraysGo : Type 0
ArraysGo = (m : typed.Module) → Base m → (t : Ty) (into : ℕ) (from : List ℕ) → InstrGoes m (core.Give t (Operate NewArray) into from)

-- Part of an array comes into a slot, or there is no such part. Where its end isn't written, the array's length is looked up.
abbrev pub SlicesGo : Type 0
SlicesGo =
    (m : typed.Module) → Base m → (t : Ty) (has_from has_to : Bool) (into : ℕ) (from : List ℕ) →
    InstrGoes m (core.Give t (Operate (Slice sequence.Array has_from has_to)) into from)

-- How long an array is comes into a slot.
abbrev pub LengthsGo : Type 0
LengthsGo =
    (m : typed.Module) → Base m → (t : Ty) (into : ℕ) (from : List ℕ) →
    InstrGoes m (core.Give t (Operate (Length sequence.Array)) into from)

-- How many cells a list has comes into a slot.
abbrev pub CountsGo : Type 0
CountsGo =
    (m : typed.Module) → Base m → (t : Ty) (into : ℕ) (from : List ℕ) →
    InstrGoes m (core.Give t (Operate (Length sequence.List)) into from)
