-- What the operators give (Limbo Language Reference, expressions): one definition for each, over the integers, by the kind of
-- number that the operands have.
use Rattle.std.specs.Prelude.{ℕ, ℤ, pos, negsuc, ◌^◌, ◌+ℤ◌, ◌-ℤ◌, ◌*ℤ◌, neg_ℤ, unsigned_abs, int_div, int_rem, Bool, true, false, if◌then◌else◌, Result, Ok, Err, List, codes, bit_and, bit_or, bit_xor}
use Rattle.std.specs.Int.{int_rem_euclid, int_shr}
use Rattle.std.specs.declared.cmp.Ordering.{Ordering}
use Rattle.std.specs.Ordering.{int_cmp, int_eq, is_eq, is_ne, is_lt, is_le, is_gt, is_ge}
use Rattle.std.specs.Result.{result_map_both}
use Rattle.limbo_values.specs.declared.number.Kind.{Kind}
use Rattle.limbo_values.specs.declared.operator.Operator.{Operator}
use Rattle.limbo_values.specs.declared.operator.Operator.TheVariants.{Add, Subtract, Multiply, Divide, Remainder, And, Xor, Or}
use Rattle.limbo_values.specs.declared.operator.Shift.{Shift}
use Rattle.limbo_values.specs.declared.operator.Shift.TheVariants.{Left, Right}
use Rattle.limbo_values.specs.declared.operator.Unary.{Unary}
use Rattle.limbo_values.specs.declared.operator.Unary.TheVariants.{Plus, Minus, Complement, Increment, Decrement}
use Rattle.limbo_values.specs.declared.operator.Comparison.{Comparison}
use Rattle.limbo_values.specs.declared.operator.Comparison.TheVariants as c
use Rattle.limbo_values.specs.declared.raised.Raised.{Raised}
use Rattle.limbo_values.specs.declared.raised.Raised.TheVariants.{ZeroDivide, ArrayBounds, StringTooLong}
use Rattle.limbo_values.specs.Numbers.{width, wrapped, bits_of}

-- The text of an exception that an operation raises.
abbrev pub text_of : Raised → List ℕ
text_of ZeroDivide = codes "zero divide"
text_of ArrayBounds = codes "array bounds error"
text_of StringTooLong = codes "string too long"

-- What `/` and `%` give: nothing is divided by 0.
abbrev pub unless_zero : ℤ → ℤ → Result ℤ Raised
unless_zero divisor z = if int_eq divisor (pos 0) then Err ZeroDivide else Ok z

-- Two operands of one kind. Results wrap; a quotient is rounded toward zero, and a remainder has the sign of the dividend;
-- `&`, `^` and `|` work on each bit.
abbrev pub applied : Kind → Operator → ℤ → ℤ → Result ℤ Raised
applied kind Add a b = Ok (wrapped kind (a +ℤ b))
applied kind Subtract a b = Ok (wrapped kind (a -ℤ b))
applied kind Multiply a b = Ok (wrapped kind (a *ℤ b))
applied kind Divide a b = unless_zero b (wrapped kind (int_div a b))
applied kind Remainder a b = unless_zero b (wrapped kind (int_rem a b))
applied kind And a b = Ok (wrapped kind (pos (bit_and (bits_of kind a) (bits_of kind b))))
applied kind Xor a b = Ok (wrapped kind (pos (bit_xor (bits_of kind a) (bits_of kind b))))
applied kind Or a b = Ok (wrapped kind (pos (bit_or (bits_of kind a) (bits_of kind b))))

-- A count of a shift is taken modulo the width of what is shifted.
abbrev pub places : Kind → ℤ → ℕ
places kind count = unsigned_abs (int_rem_euclid count (pos (width kind)))

-- A number shifted by an int. To the left each place doubles, and the result wraps; to the right each place halves, rounded
-- down, so the sign of an int or a big stays.
abbrev pub shifted : Kind → Shift → ℤ → ℤ → ℤ
shifted kind Left a count = wrapped kind (a *ℤ pos (2 ^ places kind count))
shifted kind Right a count = int_shr a (places kind count)

-- One operand. `~` turns each bit, which in two's complement is -1 - a; `++` and `--` go one up and one down.
abbrev pub altered : Kind → Unary → ℤ → ℤ
altered kind Plus a = a
altered kind Minus a = wrapped kind (neg_ℤ a)
altered kind Complement a = wrapped kind (negsuc 0 -ℤ a)
altered kind Increment a = wrapped kind (a +ℤ pos 1)
altered kind Decrement a = wrapped kind (a -ℤ pos 1)

-- Whether a comparison holds of two operands that stand in this order.
abbrev pub meets : Comparison → Ordering → Bool
meets c.Equal order = is_eq order
meets c.Unequal order = is_ne order
meets c.Less order = is_lt order
meets c.AtMost order = is_le order
meets c.Greater order = is_gt order
meets c.AtLeast order = is_ge order

-- Numbers are compared as integers.
abbrev pub compared : Comparison → ℤ → ℤ → Bool
compared comparison a b = meets comparison (int_cmp a b)

-- Comparisons, `!`, `&&` and `||` give the int 1 or 0; a condition holds where its int isn't 0.
abbrev pub truth : Bool → ℤ
truth true = pos 1
truth false = pos 0

abbrev pub holds : ℤ → Bool
holds z = if int_eq z (pos 0) then false else true

-- `!` of an int
abbrev pub denied : ℤ → ℤ
denied z = truth (int_eq z (pos 0))

-- What is answered for bytes, as integers.
abbrev pub as_integers : Result ℕ Raised → Result ℤ Raised
as_integers answer = result_map_both pos (λ raised. raised) answer
