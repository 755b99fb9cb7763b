-- Operators on typed operands (Limbo Language Reference, expressions): what they give by the rows of the table, each operand as what its
-- row asks of it.
use Rattle.std.specs.Prelude.{◌≡◌, Bool, true, false, List}
use Rattle.limbo_types.specs.Types.{Ty, Int}
use Rattle.limbo_layout.specs.Adts.{Def}
use Rattle.limbo_tree.specs.declared.operators.BinaryOp.{BinaryOp}
use Rattle.limbo_tree.specs.declared.operators.UnaryOp.{UnaryOp}
use Rattle.limbo_tree.specs.declared.operators.UnaryOp.TheVariants as before
use Rattle.limbo_typed.specs.declared.operation.Connective.{Connective}
use Rattle.limbo_typed.specs.declared.operation.Operation.{Operation}
use Rattle.limbo_typed.specs.Typed.{Expr, Of, Apply, Lazy}
use Rattle.limbo_typed.specs.Sound.{type_of}
use Rattle.limbo_operands.specs.limbo_standing.Standing.{Settles}
use Rattle.limbo_operators.specs.Rows.{Row, BinaryRow, LazyRow, binary_of}
use Rattle.limbo_prefixes.specs.Rows.{OneRow, UnaryRow, BytesRow}
use Rattle.limbo_operands.specs.Operands.{one, two}
use Rattle.limbo_refusals.specs.Refusals.{Refusal, Clash}

-- ---- between two operands

-- `&&` or `||`
abbrev pub lazy : Connective → Expr → Expr → Expr
lazy c l r = Of Int (Lazy c l r)

-- an operation on two operands, which gives a value of this type
abbrev pub applied : Operation → Ty → Expr → Expr → Expr
applied o t l r = Of t (Apply o (two l r))

-- Operands of which each is what a row asks.
pub data ByRow (row : Row) (l r : Expr) : Expr → Type 0 where
  as_asked : (f g : Expr) → Settles row.left l f → Settles row.right r g → ByRow row l r (applied row.operation row.result f g)

-- The table has this row for the operands; the operator is this connective, of two ints.
abbrev pub HasRow : BinaryOp → (l r : Expr) → Row → Type 0
HasRow o l r row = BinaryRow (binary_of o) (type_of l) (type_of r) row

abbrev pub IsLazy : BinaryOp → (l r : Expr) → Connective → Type 0
IsLazy o l r c = LazyRow (binary_of o) (type_of l) (type_of r) c

-- left op right
pub data Combines (o : BinaryOp) (l r : Expr) : Expr → Type 0 where
  by_row : (row : Row) (e : Expr) → HasRow o l r row → ByRow row l r e → Combines o l r e
  lazily : (c : Connective) → IsLazy o l r c → Combines o l r (lazy c l r)

-- the types of two operands, and those that a row asks
abbrev pub types_of : Expr → Expr → Refusal
types_of l r = Clash (type_of l) (type_of r)

abbrev pub asked : Row → Refusal
asked row = Clash row.left row.right

-- The types that are told: those of the operands, or those that their row asks.
pub data CombiningClashes (o : BinaryOp) (l r : Expr) : Refusal → Type 0 where
  of_operands : CombiningClashes o l r (types_of l r)
  of_row : (row : Row) → HasRow o l r row → CombiningClashes o l r (asked row)

-- ---- before one operand

-- `++` and `--` change a place, so they aren't operations on a value alone.
abbrev pub changes : UnaryOp → Bool
changes before.Increment = true
changes before.Decrement = true
changes _ = false

-- an operation on one operand, which gives a value of this type
abbrev pub applied_to : Operation → Ty → Expr → Expr
applied_to o t e = Of t (Apply o (one e))

-- an operand that is what a row asks
pub data ByOneRow (row : OneRow) (e : Expr) : Expr → Type 0 where
  as_one_asked : (f : Expr) → Settles row.operand e f → ByOneRow row e (applied_to row.operation row.result f)

-- the type that a row asks, twice
abbrev pub asked_one : OneRow → Refusal
asked_one row = Clash row.operand row.operand

-- the table has this row for the operand
abbrev pub HasOneRow : List Def → UnaryOp → Expr → OneRow → Type 0
HasOneRow defs o e row = UnaryRow defs o (type_of e) row

abbrev pub HasBytesRow : Expr → OneRow → Type 0
HasBytesRow e row = BytesRow (type_of e) row

-- op operand
pub data Operates (defs : List Def) (o : UnaryOp) (e : Expr) : Expr → Type 0 where
  by_one_row : (row : OneRow) (x : Expr) → changes o ≡ false → HasOneRow defs o e row → ByOneRow row e x → Operates defs o e x

-- array of byte operand
pub data BytesOf (e : Expr) : Expr → Type 0 where
  by_bytes_row : (row : OneRow) (x : Expr) → HasBytesRow e row → ByOneRow row e x → BytesOf e x

-- The types that are told: that of the operand, and the one that its row asks; or its own twice, where it has none.
pub data OperandClashes (row : OneRow → Type 0) (e : Expr) : Refusal → Type 0 where
  of_operand : OperandClashes row e (types_of e e)
  of_its_row : (r : OneRow) → row r → OperandClashes row e (asked_one r)
