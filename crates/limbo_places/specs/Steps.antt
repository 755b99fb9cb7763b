-- `++` and `--` before and behind a place (Limbo Language Reference, expressions).
use Rattle.std.specs.Prelude.{[]}
use Rattle.limbo_types.specs.Types.{Ty}
use Rattle.limbo_tree.specs.declared.operators.PostfixOp.{PostfixOp}
use Rattle.limbo_typed.specs.declared.operation.Given.{Given}
use Rattle.limbo_typed.specs.Typed.{Expr, Of, Read, Step, Place}
use Rattle.limbo_prefixes.specs.Rows.{OneRow, UnaryRow, before_of}
use Rattle.limbo_refusals.specs.Refusals.{Refusal, Clash, NotPlace}

-- The place is of a type for which the table has a row. The adts don't matter: numbers alone have one.
pub data Steps (op : PostfixOp) (given : Given) : (e : Expr) → Expr → Type 0 where
  steps : (t : Ty) (p : Place) (row : OneRow) → UnaryRow [] (before_of op) t row
      → Steps op given (Of t (Read p)) (Of t (Step row.operation given p))

-- why an expression isn't stepped: it is no place, or it is one of another type
abbrev pub not_stepped : Expr → Refusal
not_stepped (Of t (Read p)) = Clash t t
not_stepped _ = NotPlace
