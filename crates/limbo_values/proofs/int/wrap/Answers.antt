use Rattle.std.proofs.Common.{pos, ap, ◌∙◌, ◌^◌, w32, w64, to_z}
use Rattle.std.specs.Int.{int_wrap, int_rem_euclid}
use Rattle.std.specs.Prelude.{unsigned_abs}
use Rattle.std.proofs.lemmas.Int.{to_z-of_z}
use Rattle.limbo_values.proofs.int.wrap.Goals as goal

pub returns : goal.returns
unfolding int_wrap
returns c =
    let read = to_z-of_z w64 c.args.z c.ranges.z in
    let rest = to_z-of_z w64 _ (record { sfits = c.rem_euclid.type_inv }) in
    to_z-of_z w32 _ (record { sfits = c.cast_signed.type_inv }) ∙ c.cast_signed.ensures
    ∙ ap (λ r. to_z w32 (unsigned_abs r)) (rest ∙ c.rem_euclid.ensures.value ∙ ap (λ z. int_rem_euclid z (pos (2 ^ 32))) read)
