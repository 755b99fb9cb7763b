use Rattle.std.proofs.Common.{◌≡◌, ◌∙◌, sym, rules, arith}
use Rattle.std.specs.Prelude.{encode_utf8_all}
use Rattle.std.specs.Fmt.{signed_decimal}
use Rattle.std.proofs.lemmas.Str.{encodes_same, encodes-IsAscii}
use Rattle.std.proofs.lemmas.Fmt.{IsAscii-signed}
use Rattle.inf_text.proofs.text.decimal.Goals as goal

pub returns : goal.returns
returns c =
    let ascii = encodes-IsAscii (signed_decimal c.args.v) (IsAscii-signed c.args.v (let h = c.ranges.v in omega (arith, h))) in
    let spelled : encode_utf8_all c.in_ok-chars.chars.items ≡ signed_decimal c.args.v = search rules in
    encodes_same _ _ (spelled ∙ sym ascii)
