use Rattle.std.proofs.lemmas.Result.{err_from_is_err_and}
use Rattle.dis_format.specs.Reading.{many, inst_at}
use Rattle.dis_reading.proofs.Loop.{goes_on, ends, is_done}
use Rattle.dis_reading.proofs.instructions.insts_at.Goals as goal

pub returns-in_err-inst : goal.returns-in_err-inst
returns-in_err-inst c =
    let p = err_from_is_err_and c.from_residual-in_err-inst.result c.from_residual-in_err-inst.ensures.1 in
    rw (p.1, p.2)
    (ends inst_at c.in_err-inst.field-0.0 c.loop.insts.items c.args.count c.loop.counter c.loop.rest.now
    (many inst_at c.args.count c.args.bytes.now) c.loop-test.true c.in_err-inst.ensures c.loop.invariant)

pub loop-preserved : goal.loop-preserved
loop-preserved c =
    rw c.in_ok-push.ensures.items
    (goes_on inst_at c.loop.insts.items c.args.count c.loop.counter c.loop.rest.now c.in_ok-inst.inst
    c.in_ok-inst.after.now
    (many inst_at c.args.count c.args.bytes.now) c.loop-test.true c.in_ok-inst.ensures c.loop.invariant)

pub returns : goal.returns
returns c = is_done inst_at c.loop.insts.items c.args.count c.loop.counter c.loop.rest.now
    (many inst_at c.args.count c.args.bytes.now) c.loop-test.false c.loop.invariant
