-- The table of operators before one operand (Limbo Language Reference, expressions): for an operand of which type there is a row,
-- which type is asked of it, and what the operation and its result are. An operand of an open type is what is asked of it, where
-- that is settled.
use Rattle.std.specs.Prelude.{ℕ, ◌≡◌, List, Option, None, Some}
use Rattle.limbo_values.specs.declared.number.Kind.{Kind}
use Rattle.limbo_values.specs.declared.number.Kind.TheVariants as kind
use Rattle.limbo_values.specs.declared.operator.Unary.{Unary}
use Rattle.limbo_values.specs.declared.operator.Unary.TheVariants as unary
use Rattle.limbo_types.specs.Types.{Ty, Byte, Int, Chars, Nil, ArrayOf, ListOf}
use Rattle.limbo_layout.specs.Adts.{Def}
use Rattle.limbo_tree.specs.declared.operators.UnaryOp.{UnaryOp}
use Rattle.limbo_tree.specs.declared.operators.UnaryOp.TheVariants as before
use Rattle.limbo_tree.specs.declared.operators.PostfixOp.{PostfixOp}
use Rattle.limbo_tree.specs.declared.operators.PostfixOp.TheVariants as behind
use Rattle.limbo_typed.specs.declared.operation.Sequence.{Sequence}
use Rattle.limbo_typed.specs.declared.operation.Operation.{Operation}
use Rattle.limbo_typed.specs.declared.operation.Operation.TheVariants as op
use Rattle.limbo_typed.specs.Fitting.{of_kind, IsRefOf, IsSequence, IsPick}
use Rattle.limbo_typed.specs.Sound.{IsSettled}
use Rattle.limbo_operators.specs.Rows.{IsText}

-- ---- what the signs mean

-- the operators on one number
abbrev pub altering : UnaryOp → Option Unary
altering before.Plus = Some unary.Plus
altering before.Minus = Some unary.Minus
altering before.Complement = Some unary.Complement
altering before.Increment = Some unary.Increment
altering before.Decrement = Some unary.Decrement
altering _ = None

-- `++` and `--` behind a place have the row that they have before it
abbrev pub before_of : PostfixOp → UnaryOp
before_of behind.Increment = before.Increment
before_of behind.Decrement = before.Decrement

-- the conversions to numbers
abbrev pub converting : UnaryOp → Option Kind
converting before.Byte = Some kind.Byte
converting before.Int = Some kind.Int
converting before.Big = Some kind.Big
converting _ = None

-- ---- the rows

pub record OneRow : Type 0 where
  pub operand : Ty
  pub operation : Operation
  pub result : Ty

abbrev pub one : (operand : Ty) → Operation → (result : Ty) → OneRow
one t o r = record { operand = t; operation = o; result = r }

pub data UnaryRow (defs : List Def) : UnaryOp → (operand : Ty) → OneRow → Type 0 where
  -- + - ~ ++ -- of N
  altered : (o : UnaryOp) (u : Unary) (k : Kind) → altering o ≡ Some u
      → UnaryRow defs o (of_kind k) (one (of_kind k) (op.Alter u k) (of_kind k))
  -- ! int
  denied : UnaryRow defs before.Not Int (one Int op.Not Int)
  -- hd, tl of list of T
  head : (t : Ty) → IsSettled t → UnaryRow defs before.Hd (ListOf t) (one (ListOf t) op.Head t)
  tail : (t : Ty) → IsSettled t → UnaryRow defs before.Tl (ListOf t) (one (ListOf t) op.Tail (ListOf t))
  -- len of a string, an array, a list
  length : (s : Sequence) (t : Ty) → IsSequence s t → IsSettled t → UnaryRow defs before.Len t (one t (op.Length s) Int)
  -- tagof a ref of a pick adt
  tag : (n : ℕ) (t : Ty) → IsRefOf n t → IsPick defs n → UnaryRow defs before.Tagof t (one t op.Tag Int)
  -- byte, int, big of N
  converted : (o : UnaryOp) (from to : Kind) → converting o ≡ Some to
      → UnaryRow defs o (of_kind from) (one (of_kind from) (op.Convert from to) (of_kind to))
  -- int, big of a string
  read_number : (o : UnaryOp) (to : Kind) (t : Ty) → converting o ≡ Some to → (to ≡ kind.Byte → ⊥) → IsText t
      → UnaryRow defs o t (one Chars (op.ReadNumber to) (of_kind to))
  -- string of N, of array of byte, of nil
  number_text : (k : Kind) → UnaryRow defs before.String (of_kind k) (one (of_kind k) (op.NumberText k) Chars)
  bytes_text : UnaryRow defs before.String (ArrayOf Byte) (one (ArrayOf Byte) op.BytesText Chars)
  nil_text : UnaryRow defs before.String Nil (one (ArrayOf Byte) op.BytesText Chars)

-- array of byte, of a string
pub data BytesRow : (operand : Ty) → OneRow → Type 0 where
  text_bytes : (t : Ty) → IsText t → BytesRow t (one Chars op.TextBytes (ArrayOf Byte))
