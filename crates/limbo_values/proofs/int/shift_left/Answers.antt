use Rattle.std.proofs.Common.{◌≡◌, ap, ap₂, ◌∙◌, arith, w32, of_z, ◌^◌, ◌%◌, ◌<◌}
use Rattle.std.specs.Int.{int_shl}
use Rattle.limbo_values.specs.declared.number.Kind.TheVariants.{Int}
use Rattle.std.proofs.Math.Facts.{Fits-of_z, Fits-lt-pow}
use Rattle.std.proofs.lemmas.Nat.{pow_below}
use Rattle.std.proofs.lemmas.Int.{to_z-of_z}
use Rattle.limbo_values.proofs.Signed.{shl_is, count_32, remainder_below}
use Rattle.limbo_values.specs.Operators.{places}
use Rattle.limbo_values.proofs.int.shift_left.Goals as goal

pub returns : goal.returns
returns c =
    let count : c.cast_unsigned.result % 32 ≡ places Int c.args.count =
    ap (λ n. n % 32) (c.cast_unsigned.ensures ∙ ap (of_z w32) (to_z-of_z w32 c.args.count c.ranges.count))
    ∙ count_32 c.args.count c.ranges.count in
    let few : 2 ^ places Int c.args.count < 2 ^ 32 =
    pow_below (places Int c.args.count) 32 (remainder_below c.args.count 32 (omega arith)) in
    to_z-of_z w32 _ (record { sfits = c.wrapping_shl.type_inv }) ∙ c.wrapping_shl.ensures
    ∙ ap₂ (int_shl w32) (to_z-of_z w32 c.args.a c.ranges.a) count
    ∙ shl_is w32 c.args.a (places Int c.args.count) c.ranges.a (Fits-lt-pow (Fits-of_z c.ranges.a)) few
