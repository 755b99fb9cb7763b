use Rattle.std.proofs.lemmas.Result.{err_from_is_err_and}
use Rattle.dis_format.specs.Reading.{types_at}
use Rattle.dis_reading.proofs.Loop.{type_goes_on, type_ends, type_is_done}
use Rattle.dis_reading.proofs.types.types_of.Goals as goal

pub returns-in_err-desc : goal.returns-in_err-desc
returns-in_err-desc c =
    let p = err_from_is_err_and c.from_residual-in_err-desc.result c.from_residual-in_err-desc.ensures.1 in
    rw (p.1, p.2)
    (type_ends c.args.data_size c.in_err-desc.field-0.0 c.loop-place.types.items c.args.count c.loop-place.place
    c.loop-place.rest.now (types_at c.args.data_size 0 c.args.count c.args.bytes.now) c.loop-place-test.true
    c.in_err-desc.ensures c.loop-place.invariant)

pub loop-place-preserved : goal.loop-place-preserved
loop-place-preserved c =
    rw c.in_ok-push.ensures.items
    (type_goes_on c.args.data_size c.loop-place.types.items c.args.count c.loop-place.place c.loop-place.rest.now
    c.in_ok-desc.desc c.in_ok-desc.after.now (types_at c.args.data_size 0 c.args.count c.args.bytes.now)
    c.loop-place-test.true c.in_ok-desc.ensures c.loop-place.invariant)

pub returns : goal.returns
returns c = type_is_done c.args.data_size c.loop-place.types.items c.args.count c.loop-place.place c.loop-place.rest.now
    (types_at c.args.data_size 0 c.args.count c.args.bytes.now) c.loop-place-test.false c.loop-place.invariant
