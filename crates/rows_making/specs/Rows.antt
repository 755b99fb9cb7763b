-- Rows that make values: records that a `ref` names, lists whose items have a record of their own, numbers of a kind that stay as they are,
-- and the list without items.
use Rattle.std.specs.Prelude.{ℕ, ◌≡◌, List, Option}
use Rattle.limbo_types.specs.Types.{Ty}
use Rattle.limbo_values.specs.declared.number.Kind.{Kind}
use Rattle.limbo_values.specs.declared.number.Kind.TheVariants.{Big}
use Rattle.limbo_typed.specs.Typed as typed
use Rattle.limbo_typed.specs.declared.operation.Operation.TheVariants as operation
use Rattle.limbo_typed.specs.declared.operation.Operation.TheVariants.{Cons, Convert, Ref}
use Rattle.limbo_meaning.specs.Operations.{item_of}
use Rattle.limbo_meaning.specs.Trees.{Operate}
use Rattle.core_code.specs.Code as core
use Rattle.value_frames.specs.Frames.{Boxed, form_of}
use Rattle.value_follows.specs.Rows.{Base, InstrGoes}
use Rattle.rows_boxes.specs.Rows.{IsSmall}

-- A byte or an int that is asked for as one of its own kind comes into a slot as it is. (A big does, as any number that becomes a big.)
abbrev pub SameConvertsGo : Type 0
SameConvertsGo =
    (m : typed.Module) → Base m → (t : Ty) (j : Kind) (into : ℕ) (from : List ℕ) → (j ≡ Big → ⊥) →
    InstrGoes m (core.Give t (Operate (Convert j j)) into from)

-- A new record has the value of a slot, and a reference to it comes into another slot.
abbrev pub RefsGo : Type 0
RefsGo =
    (m : typed.Module) → Base m → (t : Ty) (into : ℕ) (from : List ℕ) → IsSmall m (item_of t) →
    InstrGoes m (core.Give t (Operate Ref) into from)

-- A list with an item more in front comes into a slot, where the item has a record of its own: a big, a tuple or an adt.
abbrev pub BoxConsesGo : Type 0
BoxConsesGo =
    (m : typed.Module) → Base m → (t : Ty) (into : ℕ) (from : List ℕ) → form_of (item_of t) ≡ Boxed → IsSmall m (item_of t) →
    InstrGoes m (core.Give t (Operate Cons) into from)

-- So does a cell of a list that is written, in front of another one or as the last.
abbrev pub BoxCellsGo : Type 0
BoxCellsGo =
    (m : typed.Module) → Base m → (t : Ty) (into item : ℕ) (back : Option ℕ) → form_of t ≡ Boxed → IsSmall m t →
    InstrGoes m (core.Cell t into item back)

-- The list without items comes into a slot, where an operation gives it.
abbrev pub NoItemsGo : Type 0
NoItemsGo =
    (m : typed.Module) → Base m → (t : Ty) (into : ℕ) (from : List ℕ) → InstrGoes m (core.Give t (Operate operation.List) into from)
