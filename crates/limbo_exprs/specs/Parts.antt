-- Forms of one and of two values, and items of arrays, as the code hands them on.
use Rattle.std.specs.Prelude.{◌≡◌, ◌≢◌, ℕ, ℤ, Bool, true, false, Option, None, if◌then◌else◌, List, ◌++◌, Some, map}
use Rattle.limbo_types.specs.Types.{Ty, Int, Big, Module}
use Rattle.limbo_tree.specs.Exprs as tree
use Rattle.limbo_typed.specs.declared.stmt.Constant.TheVariants as constant
use Rattle.limbo_typed.specs.Typed.{Expr, Of, Number, Optional}
use Rattle.limbo_typed.specs.Sound.{type_of}
use Rattle.limbo_typed.specs.View.{Item, view_item, view_optional, items_of}
use Rattle.limbo_refusals.specs.Refusals.{Clash, NoneIs}
use Rattle.limbo_causes.specs.Causes.{Cause, NotConstant, Refused}
use Rattle.limbo_context.specs.Context.{Context, Body}
use Rattle.limbo_folding.specs.Folding.{value_of}
use Rattle.limbo_things.specs.Things.{Thing, AType}
use Rattle.limbo_typing.specs.Typing.{HasValue, Fill}
use Rattle.limbo_typing.specs.Failing.{FailsValue, FailsFill, FailsPlace}
use Rattle.limbo_exprs.specs.declared.shapes.OfOne.{OfOne}
use Rattle.limbo_exprs.specs.declared.shapes.OfOne.TheVariants as of_one
use Rattle.limbo_exprs.specs.declared.shapes.OfTwo.{OfTwo}
use Rattle.limbo_exprs.specs.declared.shapes.OfTwo.TheVariants as of_two
use Rattle.limbo_exprs.specs.declared.arrays.Filling as code

abbrev pub with_one : OfOne → tree.Expr → tree.Expr
with_one (of_one.Before o) e = tree.Unary o e
with_one (of_one.Behind o) e = tree.Postfix o e
with_one of_one.Bytes e = tree.Bytes e

abbrev pub with_two : OfTwo → tree.Expr → tree.Expr → tree.Expr
with_two (of_two.Between o) l r = tree.Binary o l r
with_two of_two.Index l r = tree.Index l r
with_two (of_two.Give o) l r = tree.Assign o l r

-- the part, if it is changed
abbrev pub if_changed : (changes : Bool) → tree.Expr → Option tree.Expr
if_changed changes e = if changes then Some e else None

-- A part that its form changes, or takes as it is, has no value.
abbrev pub FailsAs : (changes : Bool) → Context → Body → tree.Expr → Cause → Type 0
FailsAs true c b e k = FailsPlace c b e k
FailsAs false c b e k = FailsValue c b e k

-- the value of a number: a big where it is wide
abbrev pub number_value : ℤ → Bool → Expr
number_value v wide = Of (if wide then Big else Int) (Number v)

-- the module type that a type is, and that a thing is the name of
abbrev pub module_in : Ty → Option ℕ
module_in (Module i) = Some i
module_in _ = None

abbrev pub module_named_by : Thing → Option ℕ
module_named_by (AType t) = module_in t
module_named_by _ = None

-- ---- indices

-- Why a value is no index: it is no int, or not constant.
pub data FailsIndex (y : Expr) : Cause → Type 0 where
  no_int : type_of y ≢ Int → FailsIndex y (Refused (Clash (type_of y) Int))
  not_constant : NoneIs (λ k. value_of y ≡ Some (constant.Number k)) → FailsIndex y NotConstant

-- An expression is this index.
pub data IsIndex (c : Context) (b : Body) (e : tree.Expr) (k : ℤ) (b' : Body) : Type 0 where
  index : (y : Expr) → HasValue c b e y b' → type_of y ≡ Int → value_of y ≡ Some (constant.Number k) → IsIndex c b e k b'

pub data FailsAsIndex (c : Context) (b : Body) (e : tree.Expr) (k : Cause) : Type 0 where
  no_value : FailsValue c b e k → FailsAsIndex c b e k
  no_index : (b' : Body) (y : Expr) → HasValue c b e y b' → FailsIndex y k → FailsAsIndex c b e k

-- ---- items

-- the items of an array so far
pub record Filling : Type 0 where
  pub items : List Item
  pub rest : Optional
  pub next : ℤ

abbrev pub view_filling : code.Filling → Filling
view_filling f = record { items = map view_item f.items.items; rest = view_optional f.rest; next = f.next }

-- Whatever the items behind one come to, all come to with it: this is added to the items.
pub record FillsOne (c : Context) (b b' : Body) (before after : Filling) (i : tree.Init) : Type 0 where
  pub added : List Item
  pub items : after.items ≡ before.items ++ added
  pub fills : (is : tree.Inits) (js : List Item) (last : Optional) (b'' : Body) → Fill c b' after.next after.rest is (items_of js) last b''
      → Fill c b before.next before.rest (tree.MoreInits i is) (items_of (added ++ js)) last b''
  pub fails : (is : tree.Inits) (k : Cause) → FailsFill c b' after.next after.rest is k
      → FailsFill c b before.next before.rest (tree.MoreInits i is) k

-- It fails, whatever stands behind it.
abbrev pub FailsOne : Context → Body → Filling → tree.Init → Cause → Type 0
FailsOne c b before i k = (is : tree.Inits) → FailsFill c b before.next before.rest (tree.MoreInits i is) k
