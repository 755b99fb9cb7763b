use Rattle.std.proofs.lemmas.Result.{err_from_is_err_and}
use Rattle.dis_format.specs.Reading.{many, catch_at}
use Rattle.dis_reading.proofs.Loop.{goes_on, ends, is_done}
use Rattle.dis_reading.proofs.sections.catches_at.Goals as goal

pub returns-in_err-handler : goal.returns-in_err-handler
returns-in_err-handler c =
    let p = err_from_is_err_and c.from_residual-in_err-handler.result c.from_residual-in_err-handler.ensures.1 in
    rw (p.1, p.2)
    (ends catch_at c.in_err-handler.field-0.0 c.loop.handlers.items c.args.count c.loop.counter c.loop.rest.now
    (many catch_at c.args.count c.args.bytes.now) c.loop-test.true c.in_err-handler.ensures c.loop.invariant)

pub loop-preserved : goal.loop-preserved
loop-preserved c =
    rw c.in_ok-push.ensures.items
    (goes_on catch_at c.loop.handlers.items c.args.count c.loop.counter c.loop.rest.now c.in_ok-handler.handler
    c.in_ok-handler.after.now
    (many catch_at c.args.count c.args.bytes.now) c.loop-test.true c.in_ok-handler.ensures c.loop.invariant)

pub returns : goal.returns
returns c = is_done catch_at c.loop.handlers.items c.args.count c.loop.counter c.loop.rest.now
    (many catch_at c.args.count c.args.bytes.now) c.loop-test.false c.loop.invariant
