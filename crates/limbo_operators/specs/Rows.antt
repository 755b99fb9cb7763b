-- The table of operators between two operands (Limbo Language Reference, expressions): for operands of which types there is a row,
-- which types are asked of them, and what the operation and its result are. An operand of an open type is what is asked of it, where
-- that is settled.
use Rattle.std.specs.Prelude.{ℕ, ◌≡◌, ◌⊎◌, [], ◌∷◌, Option, None, Some}
use Rattle.limbo_values.specs.declared.number.Kind.{Kind}
use Rattle.limbo_values.specs.declared.operator.Operator.{Operator}
use Rattle.limbo_values.specs.declared.operator.Operator.TheVariants as operator
use Rattle.limbo_values.specs.declared.operator.Shift.{Shift}
use Rattle.limbo_values.specs.declared.operator.Shift.TheVariants as shift
use Rattle.limbo_values.specs.declared.operator.Comparison.{Comparison}
use Rattle.limbo_values.specs.declared.operator.Comparison.TheVariants as comparison
use Rattle.limbo_types.specs.Types.{Ty, Int, Chars, Nil, ListOf, ChanOf}
use Rattle.limbo_tree.specs.declared.operators.BinaryOp.{BinaryOp}
use Rattle.limbo_tree.specs.declared.operators.BinaryOp.TheVariants as sign
use Rattle.limbo_tree.specs.declared.operators.AssignOp.{AssignOp}
use Rattle.limbo_tree.specs.declared.operators.AssignOp.TheVariants as assign
use Rattle.limbo_typed.specs.declared.operation.Connective.{Connective}
use Rattle.limbo_typed.specs.declared.operation.Connective.TheVariants as connective
use Rattle.limbo_typed.specs.declared.operation.Operation.{Operation}
use Rattle.limbo_typed.specs.declared.operation.Operation.TheVariants as op
use Rattle.limbo_typed.specs.Fitting.{of_kind, IsReference, IsRefOf}
use Rattle.limbo_typed.specs.Sound.{IsSettled}
use Rattle.limbo_operators.specs.declared.signs.Binary.{Binary}
use Rattle.limbo_operators.specs.declared.signs.Binary.TheVariants as binary
use Rattle.limbo_standing.specs.Joining.{Joins}

-- ---- what the signs mean

abbrev pub binary_of : BinaryOp → Binary
binary_of sign.Add = binary.Arithmetic operator.Add
binary_of sign.Sub = binary.Arithmetic operator.Subtract
binary_of sign.Mul = binary.Arithmetic operator.Multiply
binary_of sign.Div = binary.Arithmetic operator.Divide
binary_of sign.Rem = binary.Arithmetic operator.Remainder
binary_of sign.And = binary.Arithmetic operator.And
binary_of sign.Or = binary.Arithmetic operator.Or
binary_of sign.Xor = binary.Arithmetic operator.Xor
binary_of sign.Shl = binary.Shift shift.Left
binary_of sign.Shr = binary.Shift shift.Right
binary_of sign.Equal = binary.Compare comparison.Equal
binary_of sign.NotEqual = binary.Compare comparison.Unequal
binary_of sign.Less = binary.Compare comparison.Less
binary_of sign.LessEqual = binary.Compare comparison.AtMost
binary_of sign.Greater = binary.Compare comparison.Greater
binary_of sign.GreaterEqual = binary.Compare comparison.AtLeast
binary_of sign.Cons = binary.Cons
binary_of sign.AndAnd = binary.Lazy connective.And
binary_of sign.OrOr = binary.Lazy connective.Or

-- An assignment with an operator. The others are forms of their own.
abbrev pub updating : AssignOp → Option Binary
updating assign.Add = Some (binary.Arithmetic operator.Add)
updating assign.Sub = Some (binary.Arithmetic operator.Subtract)
updating assign.Mul = Some (binary.Arithmetic operator.Multiply)
updating assign.Div = Some (binary.Arithmetic operator.Divide)
updating assign.Rem = Some (binary.Arithmetic operator.Remainder)
updating assign.And = Some (binary.Arithmetic operator.And)
updating assign.Or = Some (binary.Arithmetic operator.Or)
updating assign.Xor = Some (binary.Arithmetic operator.Xor)
updating assign.Shl = Some (binary.Shift shift.Left)
updating assign.Shr = Some (binary.Shift shift.Right)
updating assign.Assign = None
updating assign.Define = None
updating assign.Send = None

-- ---- two operands

-- The types that are asked of the operands, the operation on their values, and the type of what it gives.
pub record Row : Type 0 where
  pub left : Ty
  pub right : Ty
  pub operation : Operation
  pub result : Ty

abbrev pub row : (left right : Ty) → Operation → (result : Ty) → Row
row l r o t = record { left = l; right = r; operation = o; result = t }

-- a string, or an open `nil`, which stands for one
pub data IsText : Ty → Type 0 where
  chars : IsText Chars
  nil : IsText Nil

-- `<`, `<=`, `>` and `>=`
pub data IsOrder : Comparison → Type 0 where
  less : IsOrder comparison.Less
  at_most : IsOrder comparison.AtMost
  greater : IsOrder comparison.Greater
  at_least : IsOrder comparison.AtLeast

-- `==` and `!=` of references
pub data Identifies : Comparison → Operation → Type 0 where
  equal : Identifies comparison.Equal op.Identical
  unequal : Identifies comparison.Unequal op.Distinct

-- references that can be the same one: two `ref` of one adt, and two channels of one type
pub data AreLike : Ty → Ty → Type 0 where
  refs : (n : ℕ) (t u : Ty) → IsRefOf n t → IsRefOf n u → AreLike t u
  channels : (t : Ty) → AreLike (ChanOf t) (ChanOf t)

-- the type of a list's items: of an open `nil` they are open
pub data HasItems : Ty → Ty → Type 0 where
  list : (t : Ty) → HasItems (ListOf t) t
  nil : HasItems Nil Nil

pub data BinaryRow : Binary → (left right : Ty) → Row → Type 0 where
  -- N + N, and so on
  numbers : (o : Operator) (k : Kind)
      → BinaryRow (binary.Arithmetic o) (of_kind k) (of_kind k) (row (of_kind k) (of_kind k) (op.Arithmetic o k) (of_kind k))
  -- string + string
  texts : (t u : Ty) → IsText t → IsText u
      → BinaryRow (binary.Arithmetic operator.Add) t u (row Chars Chars op.Join Chars)
  -- N << int, N >> int
  shifts : (s : Shift) (k : Kind)
      → BinaryRow (binary.Shift s) (of_kind k) Int (row (of_kind k) Int (op.Shift s k) (of_kind k))
  -- N == N, N < N, and so on
  compared : (c : Comparison) (k : Kind)
      → BinaryRow (binary.Compare c) (of_kind k) (of_kind k) (row (of_kind k) (of_kind k) (op.Compare c k) Int)
  -- string < string, and so on
  ordered : (c : Comparison) (t u : Ty) → IsOrder c → IsText t → IsText u
      → BinaryRow (binary.Compare c) t u (row Chars Chars (op.CompareChars c) Int)
  -- string == string, string == nil, nil == string, and so on
  same_text : (c : Comparison) (t u : Ty) → IsText t → IsText u → ((t ≡ Chars) ⊎ (u ≡ Chars))
      → BinaryRow (binary.Compare c) t u (row Chars Chars (op.CompareChars c) Int)
  -- ref == ref, chan == chan
  identified : (c : Comparison) (o : Operation) (t u : Ty) → Identifies c o → AreLike t u
      → BinaryRow (binary.Compare c) t u (row t u o Int)
  -- reference == nil, nil == reference
  with_nil : (c : Comparison) (o : Operation) (t : Ty) → Identifies c o → IsReference t → IsSettled t
      → BinaryRow (binary.Compare c) t Nil (row t t o Int)
  nil_with : (c : Comparison) (o : Operation) (t : Ty) → Identifies c o → IsReference t → IsSettled t
      → BinaryRow (binary.Compare c) Nil t (row t t o Int)
  -- T :: list of T
  puts : (t u item joined : Ty) → HasItems u item → Joins (t ∷ item ∷ []) joined → IsSettled joined
      → BinaryRow binary.Cons t u (row joined (ListOf joined) op.Cons (ListOf joined))
  -- the same, where nothing says yet which list it is
  puts_open : (t u item joined : Ty) → HasItems u item → Joins (t ∷ item ∷ []) joined → (IsSettled joined → ⊥)
      → BinaryRow binary.Cons t u (row t u op.Cons (ListOf Nil))

-- && and || are no operations: their right operand is evaluated only where the left one doesn't decide. Both are ints.
pub data LazyRow : Binary → (left right : Ty) → Connective → Type 0 where
  ints : (c : Connective) → LazyRow (binary.Lazy c) Int Int c

-- place += value, and so on: the row whose left operand and whose result have the place's type
pub record UpdateRow (o : AssignOp) (place value : Ty) (r : Row) : Type 0 where
  pub sign : Binary
  pub updates : updating o ≡ Some sign
  pub row : BinaryRow sign place value r
  pub left : r.left ≡ place
  pub result : r.result ≡ place
