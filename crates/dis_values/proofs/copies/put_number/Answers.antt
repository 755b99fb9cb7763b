use Rattle.std.proofs.Common.{◌≡◌, Ok, Err, ◌∙◌, sym}
use Rattle.dis_values.proofs.Copied.{can_put_at, writes_one}
use Rattle.dis_values.proofs.copies.put_number.Goals as goal

pub unreachable-requires : goal.unreachable-requires
unreachable-requires c =
    let f : Err c.in-Err.field-0 ≡ Ok tt = sym c.in-Err.is ∙ c.set_word.ensures.answer
    ∙ can_put_at c.args.heap.now c.args.block.serial c.requires.0 c.args.i c.args.number c.requires.1 c.requires.2 in
    cc

pub returns-clause-writes : goal.returns-clause-writes
returns-clause-writes c =
    let t = c.requires.1 in
    writes_one c.args.heap.now c.set_word.new.self c.args.block.serial c.requires.0 c.args.i c.args.number t c.requires.2
    (c.in-Ok.ensures.ok t.block t.live)
