use Rattle.std.proofs.Common.{ap, ◌∙◌, to_z, of_z, w64}
use Rattle.std.proofs.lemmas.Int.{of_z-to_z}
use Rattle.dis_opening.proofs.Bigs.{begins_big}
use Rattle.dis_opening.proofs.numbers.first_big.Goals as goal

pub returns-in-len8-up-clause-some : goal.returns-in-len8-up-clause-some
returns-in-len8-up-clause-some c =
    let n = c.from_be_bytes-number.result in
    begins_big c.args.bytes.now _ c.in-len8-up.len_at_least
    (ap (λ z. to_z w64 (of_z w64 z)) c.cast_signed.ensures ∙ ap (to_z w64) (of_z-to_z w64 n c.from_be_bytes-number.type_inv)
    ∙ ap (to_z w64) c.from_be_bytes-number.ensures)
