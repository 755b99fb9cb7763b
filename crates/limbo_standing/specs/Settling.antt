-- What a value is where a type is asked for, as a function; that it gives what the definition says is proved of it.
use Rattle.std.specs.Prelude.{ℕ, ◌≡◌, Bool, true, false, List, [], ◌∷◌, Option, None, Some, option_map, ◌==◌, ◌&&◌, if◌then◌else◌}
use Rattle.limbo_types.specs.Types.{Ty, Chars, ListOf, Tuple, RefAdt, RefPick}
use Rattle.limbo_types.specs.Same.{same}
use Rattle.limbo_typed.specs.limbo_layout.Adts.{listed}
use Rattle.limbo_typed.specs.declared.operation.Operation.{Operation}
use Rattle.limbo_typed.specs.declared.operation.Operation.TheVariants as op
use Rattle.limbo_typed.specs.Typed.{Expr, Of, Node, Exprs, NoExprs, MoreExprs, Optional, Absent, Present, Items, NoItems, MoreItems}
use Rattle.limbo_typed.specs.Typed.{Nil, OpenNil, Apply, Filled}
use Rattle.limbo_forms.specs.Forms.{is_nil, is_reference, element_of}
use Rattle.limbo_forms.specs.Forms.{choose}

abbrev pub has_nil : Ty → Bool
has_nil Chars = true
has_nil t = is_reference t

abbrev pub is_open_nil : Node → Bool
is_open_nil OpenNil = true
is_open_nil _ = false

abbrev pub is_tuple : Operation → Bool
is_tuple op.Tuple = true
is_tuple _ = false

abbrev pub is_list : Operation → Bool
is_list op.List = true
is_list _ = false

abbrev pub is_cons : Operation → Bool
is_cons op.Cons = true
is_cons _ = false

-- a `ref` of a variant of this adt
abbrev pub is_variant_of : ℕ → Ty → Bool
is_variant_of n (RefPick m v) = n == m
is_variant_of n _ = false

-- a `ref` of a variant, where the first type is the `ref` of its adt
abbrev pub stands_variant : Ty → Ty → Bool
stands_variant (RefAdt n) u = is_variant_of n u
stands_variant _ u = false

abbrev pub both : {A B C : Type 0} → (A → B → C) → Option A → Option B → Option C
both f (Some a) (Some b) = Some (f a b)
both f (Some a) None = None
both f None o = None

-- What is asked of the operands of a tuple, of a list's elements, and of the operands of `::`, where a type is asked of the whole.
pub data Asks : Type 0 where
  OfEach : List Ty → Asks
  OfAll : Ty → Asks
  OfNone : Asks

abbrev pub list_asks : Ty → Operation → Asks
list_asks t o = if is_list o then OfAll t else if is_cons o then OfEach (t ∷ ListOf t ∷ []) else OfNone

abbrev pub asks : Ty → Operation → Asks
asks (Tuple ts) o = if is_tuple o then OfEach (listed ts) else OfNone
asks (ListOf t) o = list_asks t o
asks _ o = OfNone

abbrev pub as_asked : {A : Type 0} → Asks → (List Ty → Option A) → (Ty → Option A) → Option A
as_asked (OfEach ts) f g = f ts
as_asked (OfAll t) f g = g t
as_asked OfNone f g = None

abbrev mutual
  pub settled : Ty → Expr → Option Expr
  settled t (Of u n) =
      if same u t then Some (Of u n)
      else if is_nil u && is_open_nil n then if has_nil t then Some (Of t Nil) else None
      else if stands_variant t u then Some (Of u n)
      else option_map (λ m. Of t m) (settled_node t n)

  pub settled_node : Ty → Node → Option Node
  settled_node t (Apply o es) =
      option_map (λ fs. Apply o fs) (as_asked (asks t o) (λ ts. settled_each ts es) (λ u. settled_all u es))
  settled_node t (Filled k is rest) =
      choose (element_of t) None (λ u. both (λ js last. Filled k js last) (settled_items u is) (settled_rest u rest))
  settled_node t _ = None

  pub settled_each : List Ty → Exprs → Option Exprs
  settled_each [] NoExprs = Some NoExprs
  settled_each [] (MoreExprs e es) = None
  settled_each (t ∷ ts) NoExprs = None
  settled_each (t ∷ ts) (MoreExprs e es) = both MoreExprs (settled t e) (settled_each ts es)

  pub settled_all : Ty → Exprs → Option Exprs
  settled_all t NoExprs = Some NoExprs
  settled_all t (MoreExprs e es) = both MoreExprs (settled t e) (settled_all t es)

  pub settled_items : Ty → Items → Option Items
  settled_items t NoItems = Some NoItems
  settled_items t (MoreItems i e is) = both (MoreItems i) (settled t e) (settled_items t is)

  pub settled_rest : Ty → Optional → Option Optional
  settled_rest t Absent = Some Absent
  settled_rest t (Present e) = option_map Present (settled t e)

-- what was told of a value and what it is then: it is settled so, or it doesn't stand
abbrev pub Tells : {A : Type 0} → Option A → Bool → A → Type 0
Tells o true new = o ≡ Some new
Tells o false new = o ≡ None

abbrev pub settled_args : Ty → Operation → Exprs → Option Exprs
settled_args t o es = as_asked (asks t o) (λ ts. settled_each ts es) (λ u. settled_all u es)

abbrev pub filled_node : Ty → Node → Option Node
filled_node t (Filled k is rest) =
    choose (element_of t) None (λ u. both (λ js last. Filled k js last) (settled_items u is) (settled_rest u rest))
filled_node t _ = None
