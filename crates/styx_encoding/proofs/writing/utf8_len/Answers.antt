use Rattle.std.proofs.Common.{arith}
use Rattle.styx_encoding.proofs.Sizes.{length-encode_more}
use Rattle.styx_encoding.proofs.writing.utf8_len.Goals as goal

pub loop-c-preserved : goal.loop-c-preserved
loop-c-preserved c =
    let more =
    length-encode_more c.args.chars.now c.loop-c.c-index c.c-item.result c.loop-c.size c.loop-c-test.true
    c.c-item.is c.loop-c.invariant.0 in
    (rw c.len_utf8-size.ensures.value more, omega arith)
