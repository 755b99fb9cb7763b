-- Tuples, lists, arrays and channels, as they are made of typed parts (Limbo Language Reference, expressions).
use Rattle.std.specs.Prelude.{◌≡◌, List, [], ◌∷◌, ◌++◌}
use Rattle.limbo_types.specs.Types.{Ty, Int, Nil, ArrayOf, ListOf, ChanOf, Tuple}
use Rattle.limbo_types.specs.View.{tys_of}
use Rattle.limbo_typed.specs.declared.operation.Operation.TheVariants as op
use Rattle.limbo_typed.specs.Typed.{Expr, Of, Exprs, NoExprs, MoreExprs, Optional, Absent, Present, Items, NoItems, MoreItems}
use Rattle.limbo_typed.specs.Typed.{Apply, Filled, Channel}
use Rattle.limbo_typed.specs.Sound.{IsSettled, type_of, types_of}
use Rattle.limbo_standing.specs.Joining.{Joins}
use Rattle.limbo_standing.specs.Standing.{SettleAll, SettleItems, SettleRest}

-- `(a, b, ..)`: the types are those of the parts as they are, open ones too.
abbrev pub Tuples : Exprs → Expr → Type 0
Tuples es e = e ≡ Of (Tuple (tys_of (types_of es))) (Apply op.Tuple es)

-- `list of { .. }`: its elements are what they are where the type is asked for that they have together. Where that is open, so is the
-- list, and its elements stay as they are.
pub data Lists (es : Exprs) (e : Expr) : Type 0 where
  of_type : (t : Ty) (fs : Exprs) → Joins (types_of es) t → IsSettled t → SettleAll t es fs → e ≡ Of (ListOf t) (Apply op.List fs)
      → Lists es e
  open_yet : (t : Ty) → Joins (types_of es) t → (IsSettled t → ⊥) → e ≡ Of (ListOf Nil) (Apply op.List es) → Lists es e

-- the types of an array's elements: of those that have an index, and of the one that stands at each other index
abbrev pub item_types : Items → List Ty
item_types NoItems = []
item_types (MoreItems i e is) = type_of e ∷ item_types is

abbrev pub rest_types : Optional → List Ty
rest_types Absent = []
rest_types (Present e) = type_of e ∷ []

abbrev pub element_types : Items → Optional → List Ty
element_types is rest = item_types is ++ rest_types rest

-- a length, if there is one, is an int
abbrev pub IsLength : Optional → Type 0
IsLength Absent = Unit {0}
IsLength (Present e) = type_of e ≡ Int

-- `array[length] of { items, * => rest }`, with the indices that the items have: its elements are what those of a list are.
pub data Fills (length : Optional) (is : Items) (rest : Optional) (e : Expr) : Type 0 where
  of_elements : (t : Ty) (js : Items) (last : Optional) → IsLength length → Joins (element_types is rest) t → IsSettled t
      → SettleItems t is js → SettleRest t rest last → e ≡ Of (ArrayOf t) (Filled length js last) → Fills length is rest e
  open_elements : (t : Ty) → IsLength length → Joins (element_types is rest) t → (IsSettled t → ⊥)
      → e ≡ Of (ArrayOf Nil) (Filled length is rest) → Fills length is rest e

-- `array[length] of` a type
pub record Sizes (length : Expr) (t : Ty) (e : Expr) : Type 0 where
  pub int : type_of length ≡ Int
  pub gives : e ≡ Of (ArrayOf t) (Apply op.NewArray (MoreExprs length NoExprs))

-- `chan of` a type
abbrev pub Makes : Ty → Expr → Type 0
Makes t e = e ≡ Of (ChanOf t) (Channel Absent)
