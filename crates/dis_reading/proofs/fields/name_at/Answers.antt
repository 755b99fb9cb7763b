use Rattle.std.proofs.Common.{◌≡◌, Some, rules, sym, ◌∙◌, refl}
use Rattle.std.specs.Str.{chars}
use Rattle.std.proofs.lemmas.Str.{chars_from_encodes, is_utf8-from_IsUtf8}
use Rattle.dis_format.specs.Reading.{name_at, before_zero}
use Rattle.dis_reading.proofs.Texts.{is_utf8-bad}
use Rattle.dis_reading.proofs.fields.name_at.Goals as goal

pub returns-in_ok-chars-in-Ok : goal.returns-in_ok-chars-in-Ok
unfolding name_at
returns-in_ok-chars-in-Ok c =
    let own = c.front-own.result.now in
    let z : before_zero c.args.bytes.now ≡ Some c.in-Some.count = sym c.before_zero.ensures.found ∙ c.in-Some.is in
    let e : c.in_ok-chars-in-Ok.chars.items ≡ chars own = search (rules, chars_from_encodes) in
    rw (
      z,
      ← c.front-own.ensures,
      is_utf8-from_IsUtf8 own c.in-Ok.ensures.cases.1,
      sym e,
      c.from_vec.ensures,
      c.behind.ensures,
    ) refl

pub returns-in-Err : goal.returns-in-Err
unfolding name_at
returns-in-Err c =
    let own = c.front-own.result.now in
    let z : before_zero c.args.bytes.now ≡ Some c.in-Some.count = sym c.before_zero.ensures.found ∙ c.in-Some.is in
    rw (c.refused-in-Err.ensures, z, ← c.front-own.ensures, is_utf8-bad own c.in-Err.ensures.cases.0) refl
