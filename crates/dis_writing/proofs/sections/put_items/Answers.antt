use Rattle.std.proofs.lemmas.Result.{err_from_is_err_and}
use Rattle.std.specs.List.{flat_map}
use Rattle.dis_format.specs.Parts.{item_parts}
use Rattle.dis_format.specs.Writing.{put_all}
use Rattle.dis_writing.proofs.Steps.{item_goes_on, item_ends}
use Rattle.dis_writing.proofs.sections.put_items.Goals as goal

pub returns-in_err-put_item : goal.returns-in_err-put_item
returns-in_err-put_item c =
    let p = err_from_is_err_and c.from_residual.result c.from_residual.ensures.1 in
    rw (p.1, p.2)
    (item_ends item_parts c.in_err-put_item.field-0.0 c.args.items.now c.loop-item.item-index c.item-item.result
    c.loop-item.out.items
    (put_all c.args.out.now.items (flat_map item_parts c.args.items.now)) c.loop-item-test.true c.item-item.is
    c.in_err-put_item.ensures
    c.loop-item.invariant)

pub loop-item-preserved : goal.loop-item-preserved
loop-item-preserved c =
    item_goes_on item_parts c.args.items.now c.loop-item.item-index c.item-item.result c.loop-item.out.items
    c.put_item.new.out.items
    (put_all c.args.out.now.items (flat_map item_parts c.args.items.now)) c.loop-item-test.true c.item-item.is
    c.in_ok-put_item.ensures
    c.loop-item.invariant
