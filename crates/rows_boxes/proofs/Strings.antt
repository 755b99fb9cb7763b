-- The text of a big is a string.
use Rattle.std.proofs.Common.{ℤ, suc, pos, negsuc, ◌+◌, ◌^◌, ◌<◌, arith}
use Rattle.std.proofs.lemmas.Int.{ints}
use Rattle.std.proofs.lemmas.Fmt.{length-decimal-le}
use Rattle.limbo_values.specs.Conversions.{number_text}
use Rattle.limbo_values.specs.Numbers.{InRange}
use Rattle.limbo_values.specs.declared.number.Kind.TheVariants.{Big}
use Rattle.limbo_kept.proofs.Texts.{decimal_is}
use Rattle.value_words.specs.Facts.{IsString}

pub big_string : (z : ℤ) → InRange Big z → IsString (number_text z)
big_string (pos n) range =
    let b = range.below in
    let small : n < 2 ^ 63 = omega (arith, ints, b) in
    let few = length-decimal-le 20 n (omega arith) (omega (arith, small)) (omega (arith, small)) in
    (decimal_is (pos n), omega (arith, few))
big_string (negsuc n) range =
    let a = range.above in
    let small : suc n < 2 ^ 63 + 1 = omega (arith, ints, a) in
    let few = length-decimal-le 20 (suc n) (omega arith) (omega (arith, small)) (omega (arith, small)) in
    (decimal_is (negsuc n), omega (arith, few))
