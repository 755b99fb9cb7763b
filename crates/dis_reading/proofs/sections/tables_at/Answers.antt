use Rattle.std.proofs.lemmas.Result.{err_from_is_err_and}
use Rattle.dis_format.specs.Reading.{many, counted_at, import_at}
use Rattle.dis_reading.proofs.Loop.{goes_on, ends, is_done}
use Rattle.dis_reading.proofs.sections.tables_at.Goals as goal

pub returns-in_err-table : goal.returns-in_err-table
returns-in_err-table c =
    let p = err_from_is_err_and c.from_residual-in_err-table.result c.from_residual-in_err-table.ensures.1 in
    rw (p.1, p.2)
    (ends (counted_at import_at) c.in_err-table.field-0.0 c.loop.tables.items c.args.count c.loop.counter c.loop.rest.now
    (many (counted_at import_at) c.args.count c.args.bytes.now) c.loop-test.true c.in_err-table.ensures c.loop.invariant)

pub loop-preserved : goal.loop-preserved
loop-preserved c =
    rw c.in_ok-push.ensures.items
    (goes_on (counted_at import_at) c.loop.tables.items c.args.count c.loop.counter c.loop.rest.now c.in_ok-table.table
    c.in_ok-table.after.now
    (many (counted_at import_at) c.args.count c.args.bytes.now) c.loop-test.true c.in_ok-table.ensures c.loop.invariant)

pub returns : goal.returns
returns c = is_done (counted_at import_at) c.loop.tables.items c.args.count c.loop.counter c.loop.rest.now
    (many (counted_at import_at) c.args.count c.args.bytes.now) c.loop-test.false c.loop.invariant
