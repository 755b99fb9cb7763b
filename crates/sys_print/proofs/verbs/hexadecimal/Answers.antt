use Rattle.std.proofs.Common.{◌≡◌, ◌∙◌, sym, ap, rules, false, w32, of_z}
use Rattle.std.specs.Prelude.{encode_utf8_all}
use Rattle.std.specs.Fmt.{digits}
use Rattle.system_model.specs.Verbs.{hexadecimal}
use Rattle.std.proofs.lemmas.Int.{to_z-of_z}
use Rattle.std.proofs.lemmas.Str.{encodes_same, encodes-IsAscii}
use Rattle.sys_print.proofs.Digits.{digits_ascii, bits_are}
use Rattle.sys_print.proofs.verbs.hexadecimal.Goals as goal

pub returns : goal.returns
returns c =
    let bits = sym (bits_are c.args.n c.ranges.n) ∙ ap (of_z w32) (sym (to_z-of_z w32 c.args.n c.ranges.n)) ∙ sym c.cast_unsigned.ensures in
    let told : hexadecimal c.args.n ≡ digits 16 false c.cast_unsigned.result = ap (digits 16 false) bits in
    let ascii = encodes-IsAscii (digits 16 false c.cast_unsigned.result) (digits_ascii c.cast_unsigned.result) in
    let spelled : encode_utf8_all c.in_ok-chars.chars.items ≡ digits 16 false c.cast_unsigned.result = search rules in
    c.from_vec.ensures ∙ encodes_same _ _ (spelled ∙ sym ascii) ∙ sym told
