-- Numbers in range.
use Rattle.std.proofs.Common.{◌≡◌, ℕ, ◌-◌, ◌/◌, ◌%◌, ◌^◌, ◌<◌, ℤ, pos, negsuc, ap, arith, w32, w64, SFits, Bool, true, false, cond, IfOk, Ok, Err}
use Rattle.std.specs.Prelude.{int_div, int_rem}
use Rattle.std.specs.Int.{int_wrap, int_shr}
use Rattle.std.specs.Ordering.{int_eq}
use Rattle.std.proofs.Math.Nat.{mod-eq_of_lt, mod-lt, div-le_self}
use Rattle.std.proofs.lemmas.Int.{ints, int_wrap_fits, SFits-int_wrap}
use Rattle.limbo_values.specs.declared.number.Kind.{Kind}
use Rattle.limbo_values.specs.declared.number.Kind.TheVariants.{Byte, Int, Big}
use Rattle.limbo_values.specs.declared.operator.Operator.{Operator}
use Rattle.limbo_values.specs.declared.operator.Operator.TheVariants.{Add, Subtract, Multiply, Divide, Remainder, And, Xor, Or}
use Rattle.limbo_values.specs.declared.operator.Shift.{Shift}
use Rattle.limbo_values.specs.declared.operator.Shift.TheVariants.{Left, Right}
use Rattle.limbo_values.specs.declared.operator.Unary.{Unary}
use Rattle.limbo_values.specs.declared.operator.Unary.TheVariants.{Plus, Minus, Complement, Increment, Decrement}
use Rattle.limbo_values.specs.declared.raised.Raised.TheVariants.{ZeroDivide}
use Rattle.limbo_values.specs.Numbers.{InRange, wrapped}
use Rattle.limbo_values.specs.Operators.{applied, shifted, altered, places}

pub fits_int : (z : ℤ) → InRange Int z → SFits w32 z
fits_int z r = let above = r.above in let below = r.below in omega (arith, ints)

pub fits_big : (z : ℤ) → InRange Big z → SFits w64 z
fits_big z r = let above = r.above in let below = r.below in omega (arith, ints)

range_int : (z : ℤ) → SFits w32 z → InRange Int z
range_int z f = record { above = omega (arith, ints); below = omega (arith, ints) }

range_big : (z : ℤ) → SFits w64 z → InRange Big z
range_big z f = record { above = omega (arith, ints); below = omega (arith, ints) }

range_byte : (n : ℕ) → n < 256 → InRange Byte (pos n)
range_byte n h = record { above = omega (arith, ints); below = omega (arith, ints) }

pub within : (kind : Kind) (z : ℤ) → InRange kind z → wrapped kind z ≡ z
within Byte (pos n) r = let below = r.below in ap pos (mod-eq_of_lt (omega (arith, ints)))
within Byte (negsuc n) r = let above = r.above in absurd (omega (arith, ints))
within Int z r = int_wrap_fits w32 z (fits_int z r)
within Big z r = int_wrap_fits w64 z (fits_big z r)

pub always : (kind : Kind) (z : ℤ) → InRange kind (wrapped kind z)
always Byte (pos n) = range_byte (n % 256) (mod-lt n (omega arith))
always Byte (negsuc n) = range_byte (255 - n % 256) (omega arith)
always Int z = range_int (int_wrap w32 z) (SFits-int_wrap w32 z)
always Big z = range_big (int_wrap w64 z) (SFits-int_wrap w64 z)

unless : (kind : Kind) (t : Bool) (z : ℤ) → InRange kind z → IfOk (cond t (Err ZeroDivide) (Ok z)) (InRange kind)
unless kind true z r = tt
unless kind false z r = r

pub applied_in : (kind : Kind) (operator : Operator) (a b : ℤ) → IfOk (applied kind operator a b) (InRange kind)
applied_in kind Add a b = always kind _
applied_in kind Subtract a b = always kind _
applied_in kind Multiply a b = always kind _
applied_in kind Divide a b = unless kind (int_eq b (pos 0)) (wrapped kind (int_div a b)) (always kind _)
applied_in kind Remainder a b = unless kind (int_eq b (pos 0)) (wrapped kind (int_rem a b)) (always kind _)
applied_in kind And a b = always kind _
applied_in kind Xor a b = always kind _
applied_in kind Or a b = always kind _

-- what is nearer to 0, or to -1 from below, is in range too
nearer : (kind : Kind) (a : ℤ) (k : ℕ) → InRange kind a → InRange kind (int_shr a k)
nearer Byte (pos n) k r = let below = r.below in range_byte (n / 2 ^ k) (omega (arith, ints, div-le_self n (2 ^ k)))
nearer Byte (negsuc n) k r = let above = r.above in absurd (omega (arith, ints))
nearer Int (pos n) k r = let below = r.below in record { above = omega (arith, ints); below = omega (arith, ints, div-le_self n (2 ^ k)) }
nearer Int (negsuc n) k r =
    let above = r.above in
    record { above = omega (arith, ints, div-le_self n (2 ^ k)); below = omega (arith, ints) }
nearer Big (pos n) k r = let below = r.below in record { above = omega (arith, ints); below = omega (arith, ints, div-le_self n (2 ^ k)) }
nearer Big (negsuc n) k r =
    let above = r.above in
    record { above = omega (arith, ints, div-le_self n (2 ^ k)); below = omega (arith, ints) }

pub shifted_in : (kind : Kind) (shift : Shift) (a count : ℤ) → InRange kind a → InRange kind (shifted kind shift a count)
shifted_in kind Left a count r = always kind _
shifted_in kind Right a count r = nearer kind a (places kind count) r

pub altered_in : (kind : Kind) (unary : Unary) (a : ℤ) → InRange kind a → InRange kind (altered kind unary a)
altered_in kind Plus a r = r
altered_in kind Minus a r = always kind _
altered_in kind Complement a r = always kind _
altered_in kind Increment a r = always kind _
altered_in kind Decrement a r = always kind _
