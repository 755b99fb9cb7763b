-- The sorts of constants, and the table of the operators of constant expressions: of operands of which sorts each gives a value of
-- which sort (Limbo Language Reference, constant expressions). There is no implicit conversion.
use Rattle.std.specs.Prelude.{Bool, true, false, not, ◌&&◌, if◌then◌else◌, Option, None, Some, IsSome}
use Rattle.inf_text.specs.Options.{◌>>=◌}
use Rattle.limbo_values.specs.declared.number.Kind.TheVariants.{Byte, Int, Big}
use Rattle.limbo_values.specs.declared.operator.Operator.{Operator}
use Rattle.limbo_values.specs.declared.operator.Operator.TheVariants as operator
use Rattle.limbo_values.specs.declared.operator.Shift.TheVariants as shift
use Rattle.limbo_values.specs.declared.operator.Unary.TheVariants as altering
use Rattle.limbo_values.specs.declared.operator.Comparison.TheVariants as comparison
use Rattle.limbo_tree.specs.declared.operators.UnaryOp.{UnaryOp}
use Rattle.limbo_tree.specs.declared.operators.UnaryOp.TheVariants as unary
use Rattle.limbo_tree.specs.declared.operators.BinaryOp.{BinaryOp}
use Rattle.limbo_tree.specs.declared.operators.BinaryOp.TheVariants as binary
use Rattle.limbo_tree.specs.Exprs as tree
use Rattle.limbo_constants.specs.declared.constant.Sort.{Sort}
use Rattle.limbo_constants.specs.declared.constant.Sort.TheVariants.{Number, Chars}
use Rattle.limbo_constants.specs.declared.rows.Before.{Before}
use Rattle.limbo_constants.specs.declared.rows.Before.TheVariants.{Alter, Deny, Count, Convert}
use Rattle.limbo_constants.specs.declared.rows.Operation.TheVariants.{Apply, Shift, Compare}
use Rattle.limbo_constants.specs.declared.rows.Between.{Between}
use Rattle.limbo_constants.specs.declared.rows.Between.TheVariants.{And, Or, Values}

-- What an operator before an operand does. The others aren't constant.
abbrev pub before_row : UnaryOp → Option Before
before_row unary.Plus = Some (Alter altering.Plus)
before_row unary.Minus = Some (Alter altering.Minus)
before_row unary.Complement = Some (Alter altering.Complement)
before_row unary.Not = Some Deny
before_row unary.Len = Some Count
before_row unary.Byte = Some (Convert Byte)
before_row unary.Int = Some (Convert Int)
before_row unary.Big = Some (Convert Big)
before_row _ = None

-- What an operator between two operands does. `::` isn't constant.
abbrev pub between_row : BinaryOp → Option Between
between_row binary.OrOr = Some Or
between_row binary.AndAnd = Some And
between_row binary.Cons = None
between_row binary.Or = Some (Values (Apply operator.Or))
between_row binary.Xor = Some (Values (Apply operator.Xor))
between_row binary.And = Some (Values (Apply operator.And))
between_row binary.Equal = Some (Values (Compare comparison.Equal))
between_row binary.NotEqual = Some (Values (Compare comparison.Unequal))
between_row binary.Less = Some (Values (Compare comparison.Less))
between_row binary.LessEqual = Some (Values (Compare comparison.AtMost))
between_row binary.Greater = Some (Values (Compare comparison.Greater))
between_row binary.GreaterEqual = Some (Values (Compare comparison.AtLeast))
between_row binary.Shl = Some (Values (Shift shift.Left))
between_row binary.Shr = Some (Values (Shift shift.Right))
between_row binary.Add = Some (Values (Apply operator.Add))
between_row binary.Sub = Some (Values (Apply operator.Subtract))
between_row binary.Mul = Some (Values (Apply operator.Multiply))
between_row binary.Div = Some (Values (Apply operator.Divide))
between_row binary.Rem = Some (Values (Apply operator.Remainder))

abbrev pub is_number : Sort → Bool
is_number (Number kind) = true
is_number Chars = false

abbrev pub is_int : Sort → Bool
is_int (Number Int) = true
is_int _ = false

-- whether two sorts are one
abbrev pub same : Sort → Sort → Bool
same (Number Byte) (Number Byte) = true
same (Number Int) (Number Int) = true
same (Number Big) (Number Big) = true
same Chars Chars = true
same _ _ = false

-- Strings have no operator but `+`.
abbrev pub has_operator : Sort → Operator → Bool
has_operator sort operator.Add = true
has_operator sort _ = is_number sort

-- a sort where it fits
abbrev pub fitting : Bool → Sort → Option Sort
fitting true sort = Some sort
fitting false sort = None

-- The sort of what an operator before an operand of a sort gives: `+ - ~` the number's own, `!` and `len` an int, conversions theirs.
abbrev pub sort_before : Before → Sort → Option Sort
sort_before (Alter by) sort = fitting (is_number sort) sort
sort_before Deny sort = fitting (is_int sort) sort
sort_before Count sort = fitting (not (is_number sort)) (Number Int)
sort_before (Convert kind) sort = fitting (is_number sort) (Number kind)

-- The sort of what an operator between two operands gives: an operator on two of one sort gives that sort, a shift of a number by an
-- int the number's, a comparison of two of one sort an int, `&&` and `||` of two ints an int.
abbrev pub sort_between : Between → Sort → Sort → Option Sort
sort_between And left right = fitting (is_int left && is_int right) left
sort_between Or left right = fitting (is_int left && is_int right) left
sort_between (Values (Apply by)) left right = fitting (same left right && has_operator left by) left
sort_between (Values (Shift by)) left right = fitting (is_number left && is_int right) left
sort_between (Values (Compare by)) left right = fitting (same left right) (Number Int)

-- an operator fits between operands of these sorts
abbrev pub Fits : Between → Sort → Sort → Type 0
Fits row left right = IsSome (sort_between row left right)

-- The sort of an expression, where a name, `m->k` or `x.k` has the sort that `sorts` says. What has no sort isn't constant.
abbrev mutual
  pub sort_in : (tree.Expr → Option Sort) → tree.Expr → Option Sort
  sort_in sorts (tree.Number value wide) = Some (Number (if wide then Big else Int))
  sort_in sorts (tree.Chars text) = Some Chars
  sort_in sorts (tree.Name name) = sorts (tree.Name name)
  sort_in sorts (tree.Arrow base name) = sorts (tree.Arrow base name)
  sort_in sorts (tree.Dot base name) = sorts (tree.Dot base name)
  sort_in sorts (tree.Group items) = sort_of_one sorts items
  sort_in sorts (tree.Unary op operand) = do
    row ← before_row op
    sort ← sort_in sorts operand
    sort_before row sort
  sort_in sorts (tree.Binary op left right) = do
    row ← between_row op
    first ← sort_in sorts left
    second ← sort_in sorts right
    sort_between row first second
  sort_in sorts _ = None

  -- one expression in parentheses
  pub sort_of_one : (tree.Expr → Option Sort) → tree.Exprs → Option Sort
  sort_of_one sorts (tree.MoreExprs e tree.NoExprs) = sort_in sorts e
  sort_of_one sorts _ = None
