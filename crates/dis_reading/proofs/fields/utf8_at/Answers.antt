use Rattle.std.proofs.Common.{◌≡◌, rules, sym, refl}
use Rattle.std.specs.Str.{chars}
use Rattle.std.proofs.lemmas.Str.{chars_from_encodes, is_utf8-from_IsUtf8}
use Rattle.dis_format.specs.Reading.{utf8_at}
use Rattle.dis_reading.proofs.Texts.{is_utf8-bad}
use Rattle.dis_reading.proofs.fields.utf8_at.Goals as goal

pub returns-in_ok-chars-in-Ok : goal.returns-in_ok-chars-in-Ok
unfolding utf8_at
returns-in_ok-chars-in-Ok c =
    let own = c.in_ok-own.own.now in
    let e : c.in_ok-chars-in-Ok.chars.items ≡ chars own = search (rules, chars_from_encodes) in
    rw (c.in_ok-own.ensures, is_utf8-from_IsUtf8 own c.in-Ok.ensures.cases.1, sym e, c.from_vec.ensures) refl

pub returns-in-Err : goal.returns-in-Err
unfolding utf8_at
returns-in-Err c =
    rw (c.refused.ensures, c.in_ok-own.ensures, is_utf8-bad c.in_ok-own.own.now c.in-Err.ensures.cases.0) refl
