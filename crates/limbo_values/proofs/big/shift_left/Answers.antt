use Rattle.std.proofs.Common.{◌≡◌, ap, ap₂, ◌∙◌, arith, w32, w64, of_z, ◌^◌, ◌%◌, ◌<◌}
use Rattle.std.specs.Int.{int_shl}
use Rattle.limbo_values.specs.declared.number.Kind.TheVariants.{Big}
use Rattle.std.proofs.Math.Facts.{Fits-of_z, Fits-lt-pow}
use Rattle.std.proofs.lemmas.Nat.{pow_below}
use Rattle.std.proofs.lemmas.Int.{to_z-of_z}
use Rattle.limbo_values.proofs.Signed.{shl_is, count_64, remainder_below}
use Rattle.limbo_values.specs.Operators.{places}
use Rattle.limbo_values.proofs.big.shift_left.Goals as goal

pub returns : goal.returns
returns c =
    let count : c.cast_unsigned.result % 64 ≡ places Big c.args.count =
    ap (λ n. n % 64) (c.cast_unsigned.ensures ∙ ap (of_z w32) (to_z-of_z w32 c.args.count c.ranges.count))
    ∙ count_64 c.args.count c.ranges.count in
    let few : 2 ^ places Big c.args.count < 2 ^ 64 =
    pow_below (places Big c.args.count) 64 (remainder_below c.args.count 64 (omega arith)) in
    to_z-of_z w64 _ (record { sfits = c.wrapping_shl.type_inv }) ∙ c.wrapping_shl.ensures
    ∙ ap₂ (int_shl w64) (to_z-of_z w64 c.args.a c.ranges.a) count
    ∙ shl_is w64 c.args.a (places Big c.args.count) c.ranges.a (Fits-lt-pow (Fits-of_z c.ranges.a)) few
