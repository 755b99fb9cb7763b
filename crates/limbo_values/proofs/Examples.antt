-- Rows of a manual.
use Rattle.std.proofs.Common.{◌≡◌, pos, negsuc, [], true, false, Ok, Err, refl, codes}
use Rattle.std.specs.Int.{int_wrap}
use Rattle.limbo_values.specs.declared.number.Kind.TheVariants.{Byte, Int, Big}
use Rattle.limbo_values.specs.declared.operator.Operator.TheVariants.{Add, Divide, Remainder, And}
use Rattle.limbo_values.specs.declared.operator.Shift.TheVariants.{Left, Right}
use Rattle.limbo_values.specs.declared.operator.Unary.TheVariants.{Complement}
use Rattle.limbo_values.specs.declared.operator.Comparison.TheVariants.{Less}
use Rattle.limbo_values.specs.declared.raised.Raised.TheVariants.{ZeroDivide, ArrayBounds}
use Rattle.limbo_values.specs.Numbers.{wrapped}
use Rattle.limbo_values.specs.Operators.{applied, shifted, altered}
use Rattle.limbo_values.specs.Conversions.{number_read}
use Rattle.limbo_values.specs.Texts.{text_compared, character_in, slice_in}

-- the least int, divided by -1, is itself; its remainder is 0
least_by_minus_one : applied Int Divide (negsuc 2147483647) (negsuc 0) ≡ Ok (negsuc 2147483647)
unfolding int_wrap
least_by_minus_one = refl

least_rest : applied Int Remainder (negsuc 2147483647) (negsuc 0) ≡ Ok (pos 0)
unfolding int_wrap
least_rest = refl

-- `-7 / 2` is -3 and `-7 % 2` is -1
toward_zero : applied Int Divide (negsuc 6) (pos 2) ≡ Ok (negsuc 2)
unfolding int_wrap
toward_zero = refl

sign_of_dividend : applied Int Remainder (negsuc 6) (pos 2) ≡ Ok (negsuc 0)
unfolding int_wrap
sign_of_dividend = refl

divided_by_zero : applied Int Divide (pos 7) (pos 0) ≡ Err ZeroDivide
divided_by_zero = refl

rest_by_zero : applied Byte Remainder (pos 7) (pos 0) ≡ Err ZeroDivide
rest_by_zero = refl

-- `byte 255 + byte 1` is 0
byte_wraps : applied Byte Add (pos 255) (pos 1) ≡ Ok (pos 0)
byte_wraps = refl

-- `16r7FFFFFFF + 1` is the least int
int_wraps : applied Int Add (pos 2147483647) (pos 1) ≡ Ok (negsuc 2147483647)
unfolding int_wrap
int_wraps = refl

-- `-1 & 255` is 255, `~0` is -1, and `~ byte 0` is 255
bits_of_minus_one : applied Int And (negsuc 0) (pos 255) ≡ Ok (pos 255)
unfolding int_wrap
bits_of_minus_one = refl

all_bits : altered Int Complement (pos 0) ≡ negsuc 0
unfolding int_wrap
all_bits = refl

all_bits_of_byte : altered Byte Complement (pos 0) ≡ pos 255
all_bits_of_byte = refl

-- `1 << 33` is 2 on an int and 8589934592 on a big, `byte 1 << 9` is 2, and `1 << -1` is the least int
count_reduced : shifted Int Left (pos 1) (pos 33) ≡ pos 2
unfolding int_wrap
count_reduced = refl

count_of_big : shifted Big Left (pos 1) (pos 33) ≡ pos 8589934592
unfolding int_wrap
count_of_big = refl

count_of_byte : shifted Byte Left (pos 1) (pos 9) ≡ pos 2
count_of_byte = refl

negative_count : shifted Int Left (pos 1) (negsuc 0) ≡ negsuc 2147483647
unfolding int_wrap
negative_count = refl

-- `>>` keeps the sign
sign_kept : shifted Int Right (negsuc 7) (pos 1) ≡ negsuc 3
sign_kept = refl

sign_of_big_kept : shifted Big Right (negsuc 0) (pos 63) ≡ negsuc 0
sign_of_big_kept = refl

-- `int " -12x"` is -12, `int ""` is 0, `int "4294967297"` is 1
number_at_front : number_read Int (codes " -12x") ≡ negsuc 11
unfolding int_wrap
number_at_front = refl

no_number : number_read Int [] ≡ pos 0
unfolding int_wrap
no_number = refl

number_wraps : number_read Int (codes "4294967297") ≡ pos 1
unfolding int_wrap
number_wraps = refl

-- `byte 300` is 44, `byte -1` is 255
byte_of_int : wrapped Byte (pos 300) ≡ pos 44
byte_of_int = refl

byte_of_negative : wrapped Byte (negsuc 0) ≡ pos 255
byte_of_negative = refl

-- `"a" < "b"`, `"" < "a"`, `"a" < "aa"`, and not `"b" < "a"`
a_before_b : text_compared Less (codes "a") (codes "b") ≡ true
a_before_b = refl

empty_before_a : text_compared Less [] (codes "a") ≡ true
empty_before_a = refl

a_before_aa : text_compared Less (codes "a") (codes "aa") ≡ true
a_before_aa = refl

b_behind_a : text_compared Less (codes "b") (codes "a") ≡ false
b_behind_a = refl

-- `"abc"[1]` is 'b', `"abc"[3]` and `"abc"[2:1]` raise, `"abc"[3:3]` is empty
second : character_in (codes "abc") (pos 1) ≡ Ok (pos 98)
second = refl

outside : character_in (codes "abc") (pos 3) ≡ Err ArrayBounds
outside = refl

falling : slice_in (codes "abc") (pos 2) (pos 1) ≡ Err ArrayBounds
falling = refl

empty_slice : slice_in (codes "abc") (pos 3) (pos 3) ≡ Ok []
empty_slice = refl
