-- When parts are no literal (Limbo Language Reference, expressions), and what is told then.
use Rattle.std.specs.Prelude.{ℤ, ◌≡◌, List, [], ◌∷◌, ◌++◌}
use Rattle.limbo_types.specs.Types.{Ty, Int}
use Rattle.limbo_typed.specs.Typed.{Expr, Exprs, Optional, Absent, Present, Items, MoreItems}
use Rattle.limbo_typed.specs.Sound.{IsSettled, type_of, types_of}
use Rattle.limbo_refusals.specs.Refusals.{Refusal, Clash, NoneIs}
use Rattle.limbo_standing.specs.Joining.{Joins}
use Rattle.limbo_standing.specs.Standing.{Settles, SettleItems}
use Rattle.limbo_arguments.specs.Failing.{FailsAt, FailsAll}
use Rattle.limbo_literals.specs.Literals.{element_types}

-- Types of elements that have none together: the first of them is told beside the first that has none with those before it.
pub record Apart (ts : List Ty) (r : Refusal) : Type 0 where
  pub before : List Ty
  pub here : Ty
  pub behind : List Ty
  pub split : ts ≡ before ++ here ∷ behind
  pub so_far : (t : Ty) × Joins before t
  pub apart : NoneIs (Joins (before ++ here ∷ []))
  pub first : Ty
  pub others : List Ty
  pub begins : ts ≡ first ∷ others
  pub clash : r ≡ Clash first here

-- The elements of a list have no type together, or one of them doesn't stand for the type that they have.
pub data RefusesList (es : Exprs) (r : Refusal) : Type 0 where
  apart : Apart (types_of es) r → RefusesList es r
  unlike : (t : Ty) → Joins (types_of es) t → IsSettled t → FailsAll t es r → RefusesList es r

-- A length that is no int.
pub record NoLength (length : Expr) (r : Refusal) : Type 0 where
  pub no_int : type_of length ≡ Int → ⊥
  pub clash : r ≡ Clash (type_of length) Int

-- the same of a length, if there is one
abbrev pub NoLengthIn : (length : Optional) → Refusal → Type 0
NoLengthIn Absent r = ⊥
NoLengthIn (Present e) r = NoLength e r

-- The first of an array's elements that doesn't stand where a type is asked for.
pub data FailsItems (asked : Ty) : Items → Refusal → Type 0 where
  this_item : (i : ℤ) (e : Expr) (is : Items) (r : Refusal) → FailsAt asked e r → FailsItems asked (MoreItems i e is) r
  later_item : (i : ℤ) (e f : Expr) (is : Items) (r : Refusal) → Settles asked e f → FailsItems asked is r
      → FailsItems asked (MoreItems i e is) r

-- The same of the element that stands at each other index, if there is one.
abbrev pub FailsRest : (asked : Ty) → Optional → Refusal → Type 0
FailsRest asked Absent r = ⊥
FailsRest asked (Present e) r = FailsAt asked e r

-- One of an array's elements doesn't stand: the first that has an index, or, where all of these stand, the other one.
pub data UnlikeItems (asked : Ty) (is : Items) (rest : Optional) (r : Refusal) : Type 0 where
  an_item : FailsItems asked is r → UnlikeItems asked is rest r
  the_rest : (js : Items) → SettleItems asked is js → FailsRest asked rest r → UnlikeItems asked is rest r

-- The length is no int, or of the elements the same holds as of a list's.
pub data RefusesFill (length : Optional) (is : Items) (rest : Optional) (r : Refusal) : Type 0 where
  no_length : NoLengthIn length r → RefusesFill length is rest r
  apart : Apart (element_types is rest) r → RefusesFill length is rest r
  unlike : (t : Ty) → Joins (element_types is rest) t → IsSettled t → UnlikeItems t is rest r → RefusesFill length is rest r
