-- Examples that must compute.
use Rattle.std.proofs.Common.{◌≡◌, ℤ, pos, negsuc, [], ◌∷◌, None, Some, refl}
use Rattle.std.specs.Int.{int_wrap}
use Rattle.limbo_values.specs.declared.number.Kind.TheVariants.{Byte, Int}
use Rattle.limbo_values.specs.declared.operator.Operator.TheVariants as operator
use Rattle.limbo_values.specs.declared.operator.Unary.TheVariants as unary
use Rattle.limbo_types.specs.Types as ty
use Rattle.limbo_typed.specs.declared.operation.Operation.{Operation}
use Rattle.limbo_typed.specs.declared.operation.Operation.TheVariants as op
use Rattle.limbo_typed.specs.declared.operation.Sequence.TheVariants as sequence
use Rattle.limbo_typed.specs.declared.operation.Connective.TheVariants.{And, Or}
use Rattle.limbo_typed.specs.declared.stmt.Constant.TheVariants as constant
use Rattle.limbo_typed.specs.Typed.{Expr, Of, Number, Chars, Nil, Apply, Lazy, NoExprs, MoreExprs}
use Rattle.limbo_folding.specs.Folding.{value_of}

abbrev int : ℤ → Expr
int n = Of ty.Int (Number n)

abbrev text : Expr
text = Of ty.Chars (Chars (97 ∷ 98 ∷ []))

abbrev two : Operation → Expr → Expr → Expr
two o e f = Of ty.Int (Apply o (MoreExprs e (MoreExprs f NoExprs)))

abbrev one : Operation → Expr → Expr
one o e = Of ty.Int (Apply o (MoreExprs e NoExprs))

abbrev divided : Expr
divided = two (op.Arithmetic operator.Divide Int) (int (pos 1)) (int (pos 0))

-- 2 * 3 + 1
a_sum : value_of (two (op.Arithmetic operator.Add Int) (two (op.Arithmetic operator.Multiply Int) (int (pos 2)) (int (pos 3))) (int (pos 1)))
    ≡ Some (constant.Number (pos 7))
unfolding int_wrap
a_sum = refl

-- byte 300
a_conversion : value_of (one (op.Convert Int Byte) (int (pos 300))) ≡ Some (constant.Number (pos 44))
unfolding int_wrap
a_conversion = refl

-- 1 / 0 raises, and so does what has it as an operand.
a_division : value_of divided ≡ None
unfolding int_wrap
a_division = refl

raises_through : value_of (one op.Not divided) ≡ None
unfolding int_wrap
raises_through = refl

-- 0 && 1 / 0 is 0, 1 && 1 / 0 raises, 1 || 1 / 0 is 1.
left_decides : value_of (Of ty.Int (Lazy And (int (pos 0)) divided)) ≡ Some (constant.Number (pos 0))
unfolding int_wrap
left_decides = refl

right_counts : value_of (Of ty.Int (Lazy And (int (pos 1)) divided)) ≡ None
unfolding int_wrap
right_counts = refl

or_decides : value_of (Of ty.Int (Lazy Or (int (pos 1)) divided)) ≡ Some (constant.Number (pos 1))
unfolding int_wrap
or_decides = refl

-- 0 && nil isn't constant.
not_constant : value_of (Of ty.Int (Lazy And (int (pos 0)) (Of ty.Int Nil))) ≡ None
unfolding int_wrap
not_constant = refl

-- "ab" + "ab", len "ab", and int "ab", which isn't constant
a_text : value_of (Of ty.Chars (Apply op.Join (MoreExprs text (MoreExprs text NoExprs)))) ≡ Some (constant.Chars (97 ∷ 98 ∷ 97 ∷ 98 ∷ []))
unfolding int_wrap
a_text = refl

a_length : value_of (one (op.Length sequence.Chars) text) ≡ Some (constant.Number (pos 2))
unfolding int_wrap
a_length = refl

no_reading : value_of (one (op.ReadNumber Int) text) ≡ None
unfolding int_wrap
no_reading = refl

-- - of the least int wraps, and a place's `++` isn't constant.
wraps : value_of (one (op.Alter unary.Minus Int) (int (negsuc 2147483647))) ≡ Some (constant.Number (negsuc 2147483647))
unfolding int_wrap
wraps = refl

no_step : value_of (one (op.Alter unary.Increment Int) (int (pos 1))) ≡ None
unfolding int_wrap
no_step = refl
