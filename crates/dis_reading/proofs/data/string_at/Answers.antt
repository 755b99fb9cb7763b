use Rattle.std.proofs.Common.{refl}
use Rattle.std.proofs.lemmas.Str.{is_utf8-from_IsUtf8}
use Rattle.dis_format.specs.Reading.{string_at}
use Rattle.dis_reading.proofs.Texts.{is_utf8-bad}
use Rattle.dis_reading.proofs.data.string_at.Goals as goal

pub returns-in-Ok : goal.returns-in-Ok
unfolding string_at
returns-in-Ok c =
    rw (c.in_ok-own.ensures, is_utf8-from_IsUtf8 c.in_ok-own.own.now c.in-Ok.ensures.cases.1) refl

pub returns-in-Err : goal.returns-in-Err
unfolding string_at
returns-in-Err c =
    rw (c.refused.ensures, c.in_ok-own.ensures, is_utf8-bad c.in_ok-own.own.now c.in-Err.ensures.cases.0) refl
