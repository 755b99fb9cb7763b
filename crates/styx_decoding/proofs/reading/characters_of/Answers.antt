use Rattle.std.proofs.Common.{◌≡◌, Some, rules, ap, sym, ◌∙◌}
use Rattle.std.specs.Str.{chars}
use Rattle.std.proofs.lemmas.Str.{chars_from_encodes, is_utf8-from_IsUtf8}
use Rattle.styx_decoding.specs.Reading.{characters}
use Rattle.styx_decoding.proofs.Texts.{is_utf8-bad}
use Rattle.styx_decoding.proofs.reading.characters_of.Goals as goal

pub returns-in_ok-chars-in-Ok : goal.returns-in_ok-chars-in-Ok
unfolding characters
returns-in_ok-chars-in-Ok c =
    let e : c.in_ok-chars-in-Ok.chars.items ≡ chars c.args.bytes.now = search (rules, chars_from_encodes) in
    rw (is_utf8-from_IsUtf8 c.args.bytes.now c.in-Ok.ensures.cases.1) (ap Some (sym e ∙ sym c.from_vec.ensures))

pub returns-in-Err : goal.returns-in-Err
unfolding characters
returns-in-Err c = rw (is_utf8-bad c.args.bytes.now c.in-Err.ensures.cases.0) search rules
