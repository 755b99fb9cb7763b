use Rattle.std.proofs.Common.{sym, ap, ◌∙◌}
use Rattle.dis_meaning.specs.Words.{Found}
use Rattle.dis_memory.specs.Blocks.{Text}
use Rattle.dis_opening.proofs.Spelled.{text_bad, text_is}
use Rattle.dis_opening.proofs.making.text_of.Goals as goal

pub returns-in_ok-codes_of-in-Ok : goal.returns-in_ok-codes_of-in-Ok
returns-in_ok-codes_of-in-Ok c =
    text_is c.args.bytes.now c.in-Ok.text c.in-Ok.ensures.spelled c.in-Ok.ensures.characters
    ∙ ap (λ t. Found (Text t)) (sym (c.in_ok-codes_of-in-Ok.ensures {u = tt} ∙ c.as_slice.ensures))

pub returns-in-Err-BadUtf8 : goal.returns-in-Err-BadUtf8
returns-in-Err-BadUtf8 c = text_bad c.args.bytes.now (rw c.in-Err-BadUtf8.field-0-is at c.in-Err-BadUtf8.ensures.refused).0
