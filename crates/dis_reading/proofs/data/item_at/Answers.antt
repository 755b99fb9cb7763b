use Rattle.dis_filling.specs.Filling.{loading_of}
use Rattle.dis_reading.proofs.Long.{readable}
use Rattle.dis_reading.proofs.data.item_at.Goals as goal

pub returns-clause-readable : goal.returns-clause-readable
returns-clause-readable c =
    rw (c.from_vec.ensures, c.in_ok-from_slice.ensures.items)
    (readable c.args.types.now (loading_of c.args.filled.now) c.args.bytes.now c.in_ok-kind.kind c.in_ok-kind.rest.now
    c.in_ok-first.first c.in_ok-first.field-0-1.now c.in_ok-count.count c.in_ok-offset.offset c.in_ok-offset.rest.now
    c.in_ok-content.content.now c.in_ok-content.rest.now c.in_ok-kind.ensures c.in_ok-first.ensures c.in_ok-content.ensures)
