-- place op= value (Limbo Language Reference, expressions): what it gives by the row whose left operand and whose result have the place's
-- type, with the value as what the row asks.
use Rattle.limbo_types.specs.Types.{Ty}
use Rattle.limbo_tree.specs.declared.operators.AssignOp.{AssignOp}
use Rattle.limbo_typed.specs.Typed.{Expr, Of, Place, Read, Update}
use Rattle.limbo_typed.specs.Sound.{type_of}
use Rattle.limbo_operands.specs.limbo_standing.Standing.{Settles}
use Rattle.limbo_operators.specs.Rows.{Row, UpdateRow}
use Rattle.limbo_operands.specs.Operands.{IsPlace}
use Rattle.limbo_refusals.specs.Refusals.{Refusal, Clash, NotPlace}

-- The table has this row for a place and a value of their types.
abbrev pub HasUpdateRow : AssignOp → (place value : Expr) → Row → Type 0
HasUpdateRow o p e row = UpdateRow o (type_of p) (type_of e) row

-- A place of a type and a value that is what a row asks.
pub data ByRow (row : Row) (t : Ty) (p : Place) (e : Expr) : Expr → Type 0 where
  as_asked : (f : Expr) → Settles row.right e f → ByRow row t p e (Of t (Update row.operation p f))

pub data Updates (o : AssignOp) : (place value : Expr) → Expr → Type 0 where
  by_row : (t : Ty) (p : Place) (e x : Expr) (row : Row) → HasUpdateRow o (Of t (Read p)) e row → ByRow row t p e x
      → Updates o (Of t (Read p)) e x

-- the types that a row asks
abbrev pub asked : Row → Refusal
asked row = Clash row.left row.right

-- What is no place isn't changed; of a place and a value for which there is no row the types are told.
pub data RowlessFails (place value : Expr) : Refusal → Type 0 where
  no_place : (IsPlace place → ⊥) → RowlessFails place value NotPlace
  of_operands : RowlessFails place value (Clash (type_of place) (type_of value))

-- Or the types that the row asks.
pub data UpdatingFails (o : AssignOp) (place value : Expr) : Refusal → Type 0 where
  rowless : (r : Refusal) → RowlessFails place value r → UpdatingFails o place value r
  of_row : (row : Row) → HasUpdateRow o place value row → UpdatingFails o place value (asked row)
