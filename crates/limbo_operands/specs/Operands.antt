-- Typed operands (Limbo Language Reference, expressions).
use Rattle.limbo_types.specs.Types.{Ty}
use Rattle.limbo_typed.specs.Typed.{Expr, Of, Exprs, NoExprs, MoreExprs, Place, Read}

-- one operand, and two in a row
abbrev pub one : Expr → Exprs
one e = MoreExprs e NoExprs

abbrev pub two : Expr → Expr → Exprs
two l r = MoreExprs l (one r)

-- an expression that is a place
pub data IsPlace : Expr → Type 0 where
  place : (t : Ty) (p : Place) → IsPlace (Of t (Read p))
