use Rattle.std.proofs.Common.{◌≡◌, pos, arith, to_z-of_z}
use Rattle.dis_reading.proofs.Texts.{natural_is}
use Rattle.dis_reading.proofs.fields.natural_at.Goals as goal

pub returns : goal.returns
returns c =
    let e : pos c.whole.result ≡ c.in_ok-number.number =
    first_of (grind (arith, to_z-of_z, c.whole.ensures), search (arith, to_z-of_z, c.whole.ensures)) in
    natural_is c.args.bytes.now c.in_ok-number.number c.whole.result c.in_ok-number.rest.now e c.in_ok-number.ensures.read
