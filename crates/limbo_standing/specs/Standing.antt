-- What a value is where a type is asked for (Limbo Language Reference, expressions). `nil` stands for any reference and for a string,
-- and a `ref` of a variant stands where a `ref` of its adt is asked for. Nothing else stands for another type; but of a tuple, a list, an
-- array or a list that `::` makes each part stands for itself.
use Rattle.std.specs.Prelude.{ℕ, ℤ, ◌≡◌, List, [], ◌∷◌}
use Rattle.limbo_types.specs.Types as ty
use Rattle.limbo_types.specs.Types.{Ty, Tys, ArrayOf, ListOf, Tuple, RefAdt, RefPick}
use Rattle.limbo_typed.specs.limbo_layout.Adts.{listed}
use Rattle.limbo_typed.specs.declared.operation.Operation.TheVariants as op
use Rattle.limbo_typed.specs.Typed.{Expr, Of, Node, Exprs, NoExprs, MoreExprs, Optional, Absent, Present, Items, NoItems, MoreItems}
use Rattle.limbo_typed.specs.Typed.{Nil, OpenNil, Apply, Filled}
use Rattle.limbo_typed.specs.Fitting.{HasNil}

mutual
  -- Where the first type is asked for, the value is this tree.
  pub data Settles : (asked : Ty) → Expr → Expr → Type 0 where
    -- a value of the very type, as it is
    itself : (t : Ty) (n : Node) → Settles t (Of t n) (Of t n)
    -- any other, by its form
    by_form : (t u : Ty) (n : Node) (e : Expr) → (u ≡ t → ⊥) → SettlesForm t u n e → Settles t (Of u n) e

  -- The same of a value of another type, which has this form.
  pub data SettlesForm : (asked : Ty) → Ty → Node → Expr → Type 0 where
    nil : (t : Ty) → HasNil t → SettlesForm t ty.Nil OpenNil (Of t Nil)
    variant : (n v : ℕ) (e : Node) → SettlesForm (RefAdt n) (RefPick n v) e (Of (RefPick n v) e)
    tuple : (ts : Tys) (u : Ty) (es fs : Exprs) → SettleEach (listed ts) es fs
        → SettlesForm (Tuple ts) u (Apply op.Tuple es) (Of (Tuple ts) (Apply op.Tuple fs))
    list : (t u : Ty) (es fs : Exprs) → SettleAll t es fs
        → SettlesForm (ListOf t) u (Apply op.List es) (Of (ListOf t) (Apply op.List fs))
    cons : (t u : Ty) (es fs : Exprs) → SettleEach (t ∷ ListOf t ∷ []) es fs
        → SettlesForm (ListOf t) u (Apply op.Cons es) (Of (ListOf t) (Apply op.Cons fs))
    array : (t u : Ty) (length : Optional) (is js : Items) (rest last : Optional) → SettleItems t is js → SettleRest t rest last
        → SettlesForm (ArrayOf t) u (Filled length is rest) (Of (ArrayOf t) (Filled length js last))

  -- values, each where a type of its own is asked for
  pub data SettleEach : List Ty → Exprs → Exprs → Type 0 where
    none_left : SettleEach [] NoExprs NoExprs
    each : (t : Ty) (ts : List Ty) (e f : Expr) (es fs : Exprs) → Settles t e f → SettleEach ts es fs
        → SettleEach (t ∷ ts) (MoreExprs e es) (MoreExprs f fs)

  -- values, all where this type is asked for
  pub data SettleAll : Ty → Exprs → Exprs → Type 0 where
    no_values : (t : Ty) → SettleAll t NoExprs NoExprs
    values : (t : Ty) (e f : Expr) (es fs : Exprs) → Settles t e f → SettleAll t es fs
        → SettleAll t (MoreExprs e es) (MoreExprs f fs)

  pub data SettleItems : Ty → Items → Items → Type 0 where
    no_items : (t : Ty) → SettleItems t NoItems NoItems
    items : (t : Ty) (i : ℤ) (e f : Expr) (is js : Items) → Settles t e f → SettleItems t is js
        → SettleItems t (MoreItems i e is) (MoreItems i f js)

  pub data SettleRest : Ty → Optional → Optional → Type 0 where
    no_rest : (t : Ty) → SettleRest t Absent Absent
    rest : (t : Ty) (e f : Expr) → Settles t e f → SettleRest t (Present e) (Present f)
