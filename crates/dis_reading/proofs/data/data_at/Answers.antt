use Rattle.std.proofs.Common.{length}
use Rattle.std.proofs.lemmas.Bool.{eq-eqb, ne_eqb}
use Rattle.std.proofs.lemmas.Result.{err_from_is_err_and}
use Rattle.dis_format.specs.Loading.{opening}
use Rattle.dis_format.specs.Reading.{items_at, data_at}
use Rattle.dis_filling.specs.Filling.{loading_of}
use Rattle.dis_reading.proofs.Long.{items_go_on, items_end, items_fail_byte, items_fail, items_short}
use Rattle.dis_reading.proofs.data.data_at.Goals as goal

pub returns-in_err-first : goal.returns-in_err-first
unfolding data_at
returns-in_err-first c =
    let p = err_from_is_err_and c.from_residual.result c.from_residual.ensures.1 in
    rw (p.1, p.2)
    (items_fail_byte c.args.types.now (loading_of c.loop.filled) c.in_err-first.field-0.0 c.loop.items.items (length c.args.bytes.now)
    c.loop.counter c.loop.rest.now
    (items_at c.args.types.now (length c.args.bytes.now) (opening c.args.data_size) c.args.bytes.now)
    c.loop-test.true c.in_err-first.ensures c.loop.invariant)

pub returns-then-first-eq0 : goal.returns-then-first-eq0
unfolding data_at
returns-then-first-eq0 c =
    rw (items_end c.args.types.now (loading_of c.loop.filled) c.loop.items.items (length c.args.bytes.now)
    c.loop.counter c.loop.rest.now c.in_ok-first.first c.in_ok-first.after.now
    (items_at c.args.types.now (length c.args.bytes.now) (opening c.args.data_size) c.args.bytes.now)
    c.loop-test.true c.in_ok-first.ensures (eq-eqb _ _ c.if-first-eq0.true) c.loop.invariant) c.end_at.ensures

pub returns-in_err-item : goal.returns-in_err-item
unfolding data_at
returns-in_err-item c =
    let p = err_from_is_err_and c.from_residual-in_err-item.result c.from_residual-in_err-item.ensures.1 in
    rw (p.1, p.2)
    (items_fail c.args.types.now (loading_of c.loop.filled) c.in_err-item.field-0.0 c.loop.items.items (length c.args.bytes.now)
    c.loop.counter c.loop.rest.now c.in_ok-first.first c.in_ok-first.after.now
    (items_at c.args.types.now (length c.args.bytes.now) (opening c.args.data_size) c.args.bytes.now)
    c.loop-test.true c.in_ok-first.ensures (ne_eqb _ _ c.if-first-eq0.false) c.in_err-item.ensures.read c.loop.invariant)

pub loop-preserved : goal.loop-preserved
unfolding data_at
loop-preserved c =
    rw (c.in_ok-push.ensures.items, c.in_ok-take_in.ensures)
    (items_go_on c.args.types.now (loading_of c.loop.filled) c.loop.items.items (length c.args.bytes.now)
    c.loop.counter c.loop.rest.now c.in_ok-first.first c.in_ok-first.after.now c.in_ok-item.item c.in_ok-item.after.now
    (items_at c.args.types.now (length c.args.bytes.now) (opening c.args.data_size) c.args.bytes.now)
    c.loop-test.true c.in_ok-first.ensures (ne_eqb _ _ c.if-first-eq0.false) c.in_ok-item.ensures.read c.loop.invariant)

pub returns : goal.returns
unfolding data_at
returns c =
    rw c.refused.ensures
    (items_short c.args.types.now (loading_of c.loop.filled) c.loop.items.items (length c.args.bytes.now)
    c.loop.counter c.loop.rest.now
    (items_at c.args.types.now (length c.args.bytes.now) (opening c.args.data_size) c.args.bytes.now)
    c.loop-test.false c.loop.invariant)
