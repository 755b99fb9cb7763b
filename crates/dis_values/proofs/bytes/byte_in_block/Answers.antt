use Rattle.std.proofs.Common.{Option, ap, ◌∙◌, ◌/◌, sym}
use Rattle.ref_heap.specs.Words.{cell_of}
use Rattle.ref_heap.specs.Answers.{get_answer, as_cell}
use Rattle.ref_heap.specs.Store.{Block}
use Rattle.dis_values.proofs.Packed.{read, unread}
use Rattle.dis_values.proofs.bytes.byte_in_block.Goals as goal

pub returns-in-Ok : goal.returns-in-Ok
returns-in-Ok c b is =
    c.byte_of_word.ensures
    ∙ read c.args.heap.now c.args.block.serial c.args.i b (cell_of c.in-Ok.word) is
    (sym (ap as_cell c.in-Ok.is) ∙ c.get.ensures ∙ ap (λ (o : Option Block). get_answer o (c.args.i / 4)) is)

pub returns-in-Err : goal.returns-in-Err
returns-in-Err c b is = unread c.args.i b c.in-Err.field-0 (sym (ap as_cell c.in-Err.is) ∙ c.get.ensures
    ∙ ap (λ (o : Option Block). get_answer o (c.args.i / 4)) is)
