-- The refusals of values that don't stand where types are asked for (Limbo Language Reference, expressions).
use Rattle.std.specs.Prelude.{◌≡◌, List, [], ◌∷◌}
use Rattle.limbo_types.specs.Types.{Ty}
use Rattle.limbo_typed.specs.Typed.{Expr, Exprs, NoExprs, MoreExprs}
use Rattle.limbo_typed.specs.Sound.{type_of}
use Rattle.limbo_refusals.specs.Refusals.{Refusal, Clash, NoneIs}
use Rattle.limbo_standing.specs.Standing.{Settles}

-- Of a value that doesn't stand where a type is asked for: its type beside that one.
pub record FailsAt (asked : Ty) (e : Expr) (r : Refusal) : Type 0 where
  pub stands_not : NoneIs (Settles asked e)
  pub clash : r ≡ Clash (type_of e) asked

-- Of values, each where a type of its own is asked for: of the first that doesn't stand there. Where there are too few or too many, the
-- type of the whole beside itself.
pub data FailsEach (whole : Ty) : List Ty → Exprs → Refusal → Type 0 where
  too_few : (t : Ty) (ts : List Ty) → FailsEach whole (t ∷ ts) NoExprs (Clash whole whole)
  too_many : (e : Expr) (es : Exprs) → FailsEach whole [] (MoreExprs e es) (Clash whole whole)
  at_once : (t : Ty) (ts : List Ty) (e : Expr) (es : Exprs) (r : Refusal) → FailsAt t e r → FailsEach whole (t ∷ ts) (MoreExprs e es) r
  behind : (t : Ty) (ts : List Ty) (e f : Expr) (es : Exprs) (r : Refusal) → Settles t e f → FailsEach whole ts es r
      → FailsEach whole (t ∷ ts) (MoreExprs e es) r

-- Of values, all where one type is asked for: of the first that doesn't stand there.
pub data FailsAll (asked : Ty) : Exprs → Refusal → Type 0 where
  this_one : (e : Expr) (es : Exprs) (r : Refusal) → FailsAt asked e r → FailsAll asked (MoreExprs e es) r
  later_one : (e f : Expr) (es : Exprs) (r : Refusal) → Settles asked e f → FailsAll asked es r → FailsAll asked (MoreExprs e es) r
