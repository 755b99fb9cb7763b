use Rattle.std.proofs.Common.{◌≡◌, ◌/◌, Ok, Err, ◌∙◌, sym}
use Rattle.dis_values.proofs.Packed.{can_put_number, numbers_are, sets}
use Rattle.dis_values.proofs.bytes.put_byte.Goals as goal

pub unreachable-requires : goal.unreachable-requires
unreachable-requires c =
    let t = c.requires.1 in
    let h = c.args.heap.now in
    let k = c.args.block.serial in
    let f : Err c.in-Err.field-0 ≡ Ok tt =
    sym c.in-Err.is ∙ c.set_word.ensures.answer
    ∙ can_put_number h k c.requires.0 (c.args.i / 4) c.number_in_block-number.result c.with_byte.result t
    (c.number_in_block-number.ensures t.numbers (numbers_are h k c.requires.0 t)) in
    cc

pub returns-clause-set : goal.returns-clause-set
returns-clause-set c =
    let t = c.requires.1 in
    let h = c.args.heap.now in
    let k = c.args.block.serial in
    sets h c.set_word.new.self k c.requires.0 c.args.i c.number_in_block-number.result c.with_byte.result c.args.value t
    (c.number_in_block-number.ensures t.numbers (numbers_are h k c.requires.0 t)) c.with_byte.ensures.here c.with_byte.ensures.apart
    (c.in-Ok.ensures.ok t.block t.live)
