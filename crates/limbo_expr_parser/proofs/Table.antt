-- The tables of operators, one line an operator.
use Rattle.std.proofs.Common.{◌≡◌, ◌+◌, ◌≤◌, ◌<◌, true, List, ◌∷◌, Some, None, refl, ap, arith, inl, inr, ◌⊎◌}
use Rattle.limbo_lexer.specs.declared.token.Kind.{Kind}
use Rattle.limbo_lexer.specs.declared.token.Kind.TheVariants as kind
use Rattle.limbo_lexer.specs.declared.token.Mark.TheVariants as mark
use Rattle.limbo_lexer.specs.declared.token.Key.TheVariants as key
use Rattle.limbo_tree.specs.declared.operators.AssignOp.{AssignOp}
use Rattle.limbo_tree.specs.declared.operators.AssignOp.TheVariants as assign_op
use Rattle.limbo_tree.specs.declared.operators.BinaryOp.{BinaryOp}
use Rattle.limbo_tree.specs.declared.operators.BinaryOp.TheVariants as binary_op
use Rattle.limbo_tree.specs.declared.operators.UnaryOp.{UnaryOp}
use Rattle.limbo_tree.specs.declared.operators.UnaryOp.TheVariants as unary_op
use Rattle.limbo_tree.specs.declared.operators.PostfixOp.{PostfixOp}
use Rattle.limbo_tree.specs.declared.operators.PostfixOp.TheVariants as postfix_op
use Rattle.limbo_tree.specs.Exprs.{assign_mark, binary_mark, unary_kind, postfix_mark, level, left_level, right_level}
use Rattle.limbo_reading.specs.Reading.{after_key}
use Rattle.limbo_expr_parts.specs.Strength.{strength_of, begins_expr}
use Rattle.limbo_expr_parts.specs.Operators.{binary_of, unary_of, assign_of, postfix_of}
use Rattle.limbo_expr_parts.proofs.Steps.{some_same}

-- ---- operators between two operands

pub binary_back : (o : BinaryOp) → binary_of (kind.Mark (binary_mark o)) ≡ Some o
binary_back binary_op.OrOr = refl
binary_back binary_op.AndAnd = refl
binary_back binary_op.Cons = refl
binary_back binary_op.Or = refl
binary_back binary_op.Xor = refl
binary_back binary_op.And = refl
binary_back binary_op.Equal = refl
binary_back binary_op.NotEqual = refl
binary_back binary_op.Less = refl
binary_back binary_op.LessEqual = refl
binary_back binary_op.Greater = refl
binary_back binary_op.GreaterEqual = refl
binary_back binary_op.Shl = refl
binary_back binary_op.Shr = refl
binary_back binary_op.Add = refl
binary_back binary_op.Sub = refl
binary_back binary_op.Mul = refl
binary_back binary_op.Div = refl
binary_back binary_op.Rem = refl

pub binary_is : (k : Kind) (o : BinaryOp) → binary_of k ≡ Some o → k ≡ kind.Mark (binary_mark o)
binary_is (kind.Mark mark.OrOr) o e = ap (λ (x : BinaryOp). kind.Mark (binary_mark x)) (some_same binary_op.OrOr o e)
binary_is (kind.Mark mark.AndAnd) o e = ap (λ (x : BinaryOp). kind.Mark (binary_mark x)) (some_same binary_op.AndAnd o e)
binary_is (kind.Mark mark.Cons) o e = ap (λ (x : BinaryOp). kind.Mark (binary_mark x)) (some_same binary_op.Cons o e)
binary_is (kind.Mark mark.Bar) o e = ap (λ (x : BinaryOp). kind.Mark (binary_mark x)) (some_same binary_op.Or o e)
binary_is (kind.Mark mark.Caret) o e = ap (λ (x : BinaryOp). kind.Mark (binary_mark x)) (some_same binary_op.Xor o e)
binary_is (kind.Mark mark.Ampersand) o e = ap (λ (x : BinaryOp). kind.Mark (binary_mark x)) (some_same binary_op.And o e)
binary_is (kind.Mark mark.Equal) o e = ap (λ (x : BinaryOp). kind.Mark (binary_mark x)) (some_same binary_op.Equal o e)
binary_is (kind.Mark mark.NotEqual) o e = ap (λ (x : BinaryOp). kind.Mark (binary_mark x)) (some_same binary_op.NotEqual o e)
binary_is (kind.Mark mark.Less) o e = ap (λ (x : BinaryOp). kind.Mark (binary_mark x)) (some_same binary_op.Less o e)
binary_is (kind.Mark mark.LessEqual) o e = ap (λ (x : BinaryOp). kind.Mark (binary_mark x)) (some_same binary_op.LessEqual o e)
binary_is (kind.Mark mark.Greater) o e = ap (λ (x : BinaryOp). kind.Mark (binary_mark x)) (some_same binary_op.Greater o e)
binary_is (kind.Mark mark.GreaterEqual) o e = ap (λ (x : BinaryOp). kind.Mark (binary_mark x)) (some_same binary_op.GreaterEqual o e)
binary_is (kind.Mark mark.Shl) o e = ap (λ (x : BinaryOp). kind.Mark (binary_mark x)) (some_same binary_op.Shl o e)
binary_is (kind.Mark mark.Shr) o e = ap (λ (x : BinaryOp). kind.Mark (binary_mark x)) (some_same binary_op.Shr o e)
binary_is (kind.Mark mark.Plus) o e = ap (λ (x : BinaryOp). kind.Mark (binary_mark x)) (some_same binary_op.Add o e)
binary_is (kind.Mark mark.Minus) o e = ap (λ (x : BinaryOp). kind.Mark (binary_mark x)) (some_same binary_op.Sub o e)
binary_is (kind.Mark mark.Star) o e = ap (λ (x : BinaryOp). kind.Mark (binary_mark x)) (some_same binary_op.Mul o e)
binary_is (kind.Mark mark.Slash) o e = ap (λ (x : BinaryOp). kind.Mark (binary_mark x)) (some_same binary_op.Div o e)
binary_is (kind.Mark mark.Percent) o e = ap (λ (x : BinaryOp). kind.Mark (binary_mark x)) (some_same binary_op.Rem o e)
binary_is (kind.Mark _) o e = absurd cc
binary_is _ o e = absurd cc

pub binary_strength : (o : BinaryOp) → strength_of (binary_mark o) ≡ level o
binary_strength binary_op.OrOr = refl
binary_strength binary_op.AndAnd = refl
binary_strength binary_op.Cons = refl
binary_strength binary_op.Or = refl
binary_strength binary_op.Xor = refl
binary_strength binary_op.And = refl
binary_strength binary_op.Equal = refl
binary_strength binary_op.NotEqual = refl
binary_strength binary_op.Less = refl
binary_strength binary_op.LessEqual = refl
binary_strength binary_op.Greater = refl
binary_strength binary_op.GreaterEqual = refl
binary_strength binary_op.Shl = refl
binary_strength binary_op.Shr = refl
binary_strength binary_op.Add = refl
binary_strength binary_op.Sub = refl
binary_strength binary_op.Mul = refl
binary_strength binary_op.Div = refl
binary_strength binary_op.Rem = refl

pub level_low : (o : BinaryOp) → 1 ≤ level o
level_low binary_op.OrOr = omega arith
level_low binary_op.AndAnd = omega arith
level_low binary_op.Cons = omega arith
level_low binary_op.Or = omega arith
level_low binary_op.Xor = omega arith
level_low binary_op.And = omega arith
level_low binary_op.Equal = omega arith
level_low binary_op.NotEqual = omega arith
level_low binary_op.Less = omega arith
level_low binary_op.LessEqual = omega arith
level_low binary_op.Greater = omega arith
level_low binary_op.GreaterEqual = omega arith
level_low binary_op.Shl = omega arith
level_low binary_op.Shr = omega arith
level_low binary_op.Add = omega arith
level_low binary_op.Sub = omega arith
level_low binary_op.Mul = omega arith
level_low binary_op.Div = omega arith
level_low binary_op.Rem = omega arith

pub level_high : (o : BinaryOp) → level o ≤ 11
level_high binary_op.OrOr = omega arith
level_high binary_op.AndAnd = omega arith
level_high binary_op.Cons = omega arith
level_high binary_op.Or = omega arith
level_high binary_op.Xor = omega arith
level_high binary_op.And = omega arith
level_high binary_op.Equal = omega arith
level_high binary_op.NotEqual = omega arith
level_high binary_op.Less = omega arith
level_high binary_op.LessEqual = omega arith
level_high binary_op.Greater = omega arith
level_high binary_op.GreaterEqual = omega arith
level_high binary_op.Shl = omega arith
level_high binary_op.Shr = omega arith
level_high binary_op.Add = omega arith
level_high binary_op.Sub = omega arith
level_high binary_op.Mul = omega arith
level_high binary_op.Div = omega arith
level_high binary_op.Rem = omega arith

-- all group to the left but the one of level 9
abbrev Sides : BinaryOp → Type 0
Sides o = ((level o < 9) × (right_level o + 1 ≡ level o) × (left_level o ≡ level o)) ⊎ (((9 < level o) × (right_level o + 1 ≡ level o) × (left_level o ≡ level o)) ⊎ ((level o ≡ 9) × (right_level o ≡ 9) × (left_level o ≡ 8)))

sides : (o : BinaryOp) → Sides o
sides binary_op.Mul = inl (omega arith, refl, refl)
sides binary_op.Div = inl (omega arith, refl, refl)
sides binary_op.Rem = inl (omega arith, refl, refl)
sides binary_op.Add = inl (omega arith, refl, refl)
sides binary_op.Sub = inl (omega arith, refl, refl)
sides binary_op.Shl = inl (omega arith, refl, refl)
sides binary_op.Shr = inl (omega arith, refl, refl)
sides binary_op.Less = inl (omega arith, refl, refl)
sides binary_op.LessEqual = inl (omega arith, refl, refl)
sides binary_op.Greater = inl (omega arith, refl, refl)
sides binary_op.GreaterEqual = inl (omega arith, refl, refl)
sides binary_op.Equal = inl (omega arith, refl, refl)
sides binary_op.NotEqual = inl (omega arith, refl, refl)
sides binary_op.And = inl (omega arith, refl, refl)
sides binary_op.Xor = inl (omega arith, refl, refl)
sides binary_op.Or = inl (omega arith, refl, refl)
sides binary_op.Cons = inr (inr (refl, refl, refl))
sides binary_op.AndAnd = inr (inl (omega arith, refl, refl))
sides binary_op.OrOr = inr (inl (omega arith, refl, refl))

pub right_low : (o : BinaryOp) → right_level o ≤ level o
right_low o = elim (sides o) [
  | inl p ↦ omega (arith, p.1)
  | inr q ↦ elim q [
    | inl p ↦ omega (arith, p.1)
    | inr p ↦ omega (arith, p.0, p.1)
  ]
]

pub left_low : (o : BinaryOp) → left_level o ≤ level o
left_low o = elim (sides o) [
  | inl p ↦ omega (arith, p.2)
  | inr q ↦ elim q [
    | inl p ↦ omega (arith, p.2)
    | inr p ↦ omega (arith, p.0, p.2)
  ]
]

-- the right side of what stands left of an operator ends before it
pub left_ends : (i o : BinaryOp) → level i ≤ left_level o → right_level i < level o
left_ends i o le = elim (sides i) [
  | inl p ↦ omega (arith, p.1, left_low o)
  | inr q ↦ elim q [
    | inl p ↦ omega (arith, p.1, left_low o)
    | inr p ↦ elim (sides o) [
      | inl s ↦ absurd (omega (arith, p.0, s.0, s.2))
      | inr t ↦ elim t [
        | inl s ↦ omega (arith, p.1, s.0)
        | inr s ↦ absurd (omega (arith, p.0, s.2))
      ]
    ]
  ]
]

-- what ended before an operator may stand left of it
pub left_fits : (i o : BinaryOp) → right_level i < level o → level i ≤ left_level o
left_fits i o lt = elim (sides o) [
  | inl s ↦ elim (sides i) [
    | inl p ↦ omega (arith, p.1, s.2)
    | inr q ↦ elim q [
      | inl p ↦ omega (arith, p.1, s.2)
      | inr p ↦ absurd (omega (arith, p.1, s.0))
    ]
  ]
  | inr t ↦ elim t [
    | inl s ↦ elim (sides i) [
      | inl p ↦ omega (arith, p.1, s.2)
      | inr q ↦ elim q [
        | inl p ↦ omega (arith, p.1, s.2)
        | inr p ↦ omega (arith, p.0, s.0, s.2)
      ]
    ]
    | inr s ↦ elim (sides i) [
      | inl p ↦ omega (arith, p.0, s.2)
      | inr q ↦ elim q [
        | inl p ↦ absurd (omega (arith, p.0, p.1, s.0))
        | inr p ↦ absurd (omega (arith, p.1, s.0))
      ]
    ]
  ]
]

-- ---- operators before an operand

pub unary_back : (o : UnaryOp) → unary_of (unary_kind o) ≡ Some o
unary_back unary_op.Plus = refl
unary_back unary_op.Minus = refl
unary_back unary_op.Not = refl
unary_back unary_op.Complement = refl
unary_back unary_op.Increment = refl
unary_back unary_op.Decrement = refl
unary_back unary_op.Receive = refl
unary_back unary_op.Ref = refl
unary_back unary_op.Deref = refl
unary_back unary_op.Hd = refl
unary_back unary_op.Tl = refl
unary_back unary_op.Len = refl
unary_back unary_op.Tagof = refl
unary_back unary_op.Byte = refl
unary_back unary_op.Int = refl
unary_back unary_op.Big = refl
unary_back unary_op.String = refl

pub unary_is : (k : Kind) (o : UnaryOp) → unary_of k ≡ Some o → k ≡ unary_kind o
unary_is (kind.Mark mark.Plus) o e = ap unary_kind (some_same unary_op.Plus o e)
unary_is (kind.Mark mark.Minus) o e = ap unary_kind (some_same unary_op.Minus o e)
unary_is (kind.Mark mark.Bang) o e = ap unary_kind (some_same unary_op.Not o e)
unary_is (kind.Mark mark.Tilde) o e = ap unary_kind (some_same unary_op.Complement o e)
unary_is (kind.Mark mark.Increment) o e = ap unary_kind (some_same unary_op.Increment o e)
unary_is (kind.Mark mark.Decrement) o e = ap unary_kind (some_same unary_op.Decrement o e)
unary_is (kind.Mark mark.Receive) o e = ap unary_kind (some_same unary_op.Receive o e)
unary_is (kind.Key key.Ref) o e = ap unary_kind (some_same unary_op.Ref o e)
unary_is (kind.Mark mark.Star) o e = ap unary_kind (some_same unary_op.Deref o e)
unary_is (kind.Key key.Hd) o e = ap unary_kind (some_same unary_op.Hd o e)
unary_is (kind.Key key.Tl) o e = ap unary_kind (some_same unary_op.Tl o e)
unary_is (kind.Key key.Len) o e = ap unary_kind (some_same unary_op.Len o e)
unary_is (kind.Key key.Tagof) o e = ap unary_kind (some_same unary_op.Tagof o e)
unary_is (kind.Key key.Byte) o e = ap unary_kind (some_same unary_op.Byte o e)
unary_is (kind.Key key.Int) o e = ap unary_kind (some_same unary_op.Int o e)
unary_is (kind.Key key.Big) o e = ap unary_kind (some_same unary_op.Big o e)
unary_is (kind.Key key.String) o e = ap unary_kind (some_same unary_op.String o e)
unary_is (kind.Mark _) o e = absurd cc
unary_is (kind.Key _) o e = absurd cc
unary_is _ o e = absurd cc

pub unary_begins : (o : UnaryOp) (ts : List Kind) → begins_expr (unary_kind o ∷ ts) ≡ true
unary_begins unary_op.Plus ts = refl
unary_begins unary_op.Minus ts = refl
unary_begins unary_op.Not ts = refl
unary_begins unary_op.Complement ts = refl
unary_begins unary_op.Increment ts = refl
unary_begins unary_op.Decrement ts = refl
unary_begins unary_op.Receive ts = refl
unary_begins unary_op.Ref ts = refl
unary_begins unary_op.Deref ts = refl
unary_begins unary_op.Hd ts = refl
unary_begins unary_op.Tl ts = refl
unary_begins unary_op.Len ts = refl
unary_begins unary_op.Tagof ts = refl
unary_begins unary_op.Byte ts = refl
unary_begins unary_op.Int ts = refl
unary_begins unary_op.Big ts = refl
unary_begins unary_op.String ts = refl

pub unary_no_load : (o : UnaryOp) (ts : List Kind) → after_key key.Load (unary_kind o ∷ ts) ≡ None
unary_no_load unary_op.Plus ts = refl
unary_no_load unary_op.Minus ts = refl
unary_no_load unary_op.Not ts = refl
unary_no_load unary_op.Complement ts = refl
unary_no_load unary_op.Increment ts = refl
unary_no_load unary_op.Decrement ts = refl
unary_no_load unary_op.Receive ts = refl
unary_no_load unary_op.Ref ts = refl
unary_no_load unary_op.Deref ts = refl
unary_no_load unary_op.Hd ts = refl
unary_no_load unary_op.Tl ts = refl
unary_no_load unary_op.Len ts = refl
unary_no_load unary_op.Tagof ts = refl
unary_no_load unary_op.Byte ts = refl
unary_no_load unary_op.Int ts = refl
unary_no_load unary_op.Big ts = refl
unary_no_load unary_op.String ts = refl

-- ---- assignments

pub assign_back : (o : AssignOp) → assign_of (kind.Mark (assign_mark o)) ≡ Some o
assign_back assign_op.Assign = refl
assign_back assign_op.Define = refl
assign_back assign_op.Send = refl
assign_back assign_op.Add = refl
assign_back assign_op.Sub = refl
assign_back assign_op.Mul = refl
assign_back assign_op.Div = refl
assign_back assign_op.Rem = refl
assign_back assign_op.And = refl
assign_back assign_op.Or = refl
assign_back assign_op.Xor = refl
assign_back assign_op.Shl = refl
assign_back assign_op.Shr = refl

pub assign_is : (k : Kind) (o : AssignOp) → assign_of k ≡ Some o → k ≡ kind.Mark (assign_mark o)
assign_is (kind.Mark mark.Assign) o e = ap (λ (x : AssignOp). kind.Mark (assign_mark x)) (some_same assign_op.Assign o e)
assign_is (kind.Mark mark.Define) o e = ap (λ (x : AssignOp). kind.Mark (assign_mark x)) (some_same assign_op.Define o e)
assign_is (kind.Mark mark.Send) o e = ap (λ (x : AssignOp). kind.Mark (assign_mark x)) (some_same assign_op.Send o e)
assign_is (kind.Mark mark.AddAssign) o e = ap (λ (x : AssignOp). kind.Mark (assign_mark x)) (some_same assign_op.Add o e)
assign_is (kind.Mark mark.SubAssign) o e = ap (λ (x : AssignOp). kind.Mark (assign_mark x)) (some_same assign_op.Sub o e)
assign_is (kind.Mark mark.MulAssign) o e = ap (λ (x : AssignOp). kind.Mark (assign_mark x)) (some_same assign_op.Mul o e)
assign_is (kind.Mark mark.DivAssign) o e = ap (λ (x : AssignOp). kind.Mark (assign_mark x)) (some_same assign_op.Div o e)
assign_is (kind.Mark mark.RemAssign) o e = ap (λ (x : AssignOp). kind.Mark (assign_mark x)) (some_same assign_op.Rem o e)
assign_is (kind.Mark mark.AndAssign) o e = ap (λ (x : AssignOp). kind.Mark (assign_mark x)) (some_same assign_op.And o e)
assign_is (kind.Mark mark.OrAssign) o e = ap (λ (x : AssignOp). kind.Mark (assign_mark x)) (some_same assign_op.Or o e)
assign_is (kind.Mark mark.XorAssign) o e = ap (λ (x : AssignOp). kind.Mark (assign_mark x)) (some_same assign_op.Xor o e)
assign_is (kind.Mark mark.ShlAssign) o e = ap (λ (x : AssignOp). kind.Mark (assign_mark x)) (some_same assign_op.Shl o e)
assign_is (kind.Mark mark.ShrAssign) o e = ap (λ (x : AssignOp). kind.Mark (assign_mark x)) (some_same assign_op.Shr o e)
assign_is (kind.Mark _) o e = absurd cc
assign_is _ o e = absurd cc

pub assign_strength : (o : AssignOp) → strength_of (assign_mark o) ≡ 13
assign_strength assign_op.Assign = refl
assign_strength assign_op.Define = refl
assign_strength assign_op.Send = refl
assign_strength assign_op.Add = refl
assign_strength assign_op.Sub = refl
assign_strength assign_op.Mul = refl
assign_strength assign_op.Div = refl
assign_strength assign_op.Rem = refl
assign_strength assign_op.And = refl
assign_strength assign_op.Or = refl
assign_strength assign_op.Xor = refl
assign_strength assign_op.Shl = refl
assign_strength assign_op.Shr = refl

-- ---- operators behind an operand

pub postfix_is : (k : Kind) (o : PostfixOp) → postfix_of k ≡ Some o → k ≡ kind.Mark (postfix_mark o)
postfix_is (kind.Mark mark.Increment) o e = ap (λ (x : PostfixOp). kind.Mark (postfix_mark x)) (some_same postfix_op.Increment o e)
postfix_is (kind.Mark mark.Decrement) o e = ap (λ (x : PostfixOp). kind.Mark (postfix_mark x)) (some_same postfix_op.Decrement o e)
postfix_is (kind.Mark _) o e = absurd cc
postfix_is _ o e = absurd cc
