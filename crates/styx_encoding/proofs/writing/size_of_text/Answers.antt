use Rattle.std.proofs.Common.{◌<◌, length, refl, arith}
use Rattle.std.specs.Prelude.{encode_utf8_all}
use Rattle.std.proofs.lemmas.Str.{length-le-encodes}
use Rattle.styx_encoding.proofs.Sizes.{text_size-none, text_size-some}
use Rattle.styx_encoding.proofs.writing.size_of_text.Goals as goal

pub returns-then-len-gt-TEXT_MAX-clause-size : goal.returns-then-len-gt-TEXT_MAX-clause-size
returns-then-len-gt-TEXT_MAX-clause-size c =
    let long : 65535 < length (encode_utf8_all c.args.text.now) =
    omega (arith, length-le-encodes c.args.text.now, c.len.ensures) in
    (refl, text_size-none c.args.text.now long)

pub returns-then-size-gt-TEXT_MAX-clause-size : goal.returns-then-size-gt-TEXT_MAX-clause-size
returns-then-size-gt-TEXT_MAX-clause-size c =
    let long : 65535 < length (encode_utf8_all c.args.text.now) =
    rw (← c.as_slice.ensures, ← c.utf8_len-size.ensures) (omega arith) in
    (refl, text_size-none c.args.text.now long)

pub returns-clause-size : goal.returns-clause-size
returns-clause-size c = text_size-some c.args.text.now c.utf8_len-size.result (rw
    (← c.as_slice.ensures) c.utf8_len-size.ensures) (omega arith)
