use Rattle.std.proofs.lemmas.Result.{err_from_is_err_and}
use Rattle.dis_format.specs.Reading.{many, link_at}
use Rattle.dis_reading.proofs.Loop.{goes_on, ends, is_done}
use Rattle.dis_reading.proofs.sections.links_at.Goals as goal

pub returns-in_err-link : goal.returns-in_err-link
returns-in_err-link c =
    let p = err_from_is_err_and c.from_residual-in_err-link.result c.from_residual-in_err-link.ensures.1 in
    rw (p.1, p.2)
    (ends (link_at c.args.code c.args.types) c.in_err-link.field-0.0 c.loop.links.items c.args.count c.loop.counter c.loop.rest.now
    (many (link_at c.args.code c.args.types) c.args.count c.args.bytes.now) c.loop-test.true c.in_err-link.ensures c.loop.invariant)

pub loop-preserved : goal.loop-preserved
loop-preserved c =
    rw c.in_ok-push.ensures.items
    (goes_on (link_at c.args.code c.args.types) c.loop.links.items c.args.count c.loop.counter c.loop.rest.now c.in_ok-link.link
    c.in_ok-link.after.now
    (many (link_at c.args.code c.args.types) c.args.count c.args.bytes.now) c.loop-test.true c.in_ok-link.ensures c.loop.invariant)

pub returns : goal.returns
returns c = is_done (link_at c.args.code c.args.types) c.loop.links.items c.args.count c.loop.counter c.loop.rest.now
    (many (link_at c.args.code c.args.types) c.args.count c.args.bytes.now) c.loop-test.false c.loop.invariant
