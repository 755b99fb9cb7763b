use Rattle.std.proofs.lemmas.Result.{err_from_is_err_and}
use Rattle.dis_format.specs.Reading.{many, arm_at}
use Rattle.dis_reading.proofs.Loop.{goes_on, ends, is_done}
use Rattle.dis_reading.proofs.sections.arms_at.Goals as goal

pub returns-in_err-arm : goal.returns-in_err-arm
returns-in_err-arm c =
    let p = err_from_is_err_and c.from_residual-in_err-arm.result c.from_residual-in_err-arm.ensures.1 in
    rw (p.1, p.2)
    (ends arm_at c.in_err-arm.field-0.0 c.loop.arms.items c.args.count c.loop.counter c.loop.rest.now
    (many arm_at c.args.count c.args.bytes.now) c.loop-test.true c.in_err-arm.ensures c.loop.invariant)

pub loop-preserved : goal.loop-preserved
loop-preserved c =
    rw c.in_ok-push.ensures.items
    (goes_on arm_at c.loop.arms.items c.args.count c.loop.counter c.loop.rest.now c.in_ok-arm.arm
    c.in_ok-arm.after.now
    (many arm_at c.args.count c.args.bytes.now) c.loop-test.true c.in_ok-arm.ensures c.loop.invariant)

pub returns : goal.returns
returns c = is_done arm_at c.loop.arms.items c.args.count c.loop.counter c.loop.rest.now
    (many arm_at c.args.count c.args.bytes.now) c.loop-test.false c.loop.invariant
