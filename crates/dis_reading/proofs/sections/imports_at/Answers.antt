use Rattle.std.proofs.lemmas.Result.{err_from_is_err_and}
use Rattle.dis_format.specs.Reading.{many, import_at}
use Rattle.dis_reading.proofs.Loop.{goes_on, ends, is_done}
use Rattle.dis_reading.proofs.sections.imports_at.Goals as goal

pub returns-in_err-import : goal.returns-in_err-import
returns-in_err-import c =
    let p = err_from_is_err_and c.from_residual-in_err-import.result c.from_residual-in_err-import.ensures.1 in
    rw (p.1, p.2)
    (ends import_at c.in_err-import.field-0.0 c.loop.imports.items c.args.count c.loop.counter c.loop.rest.now
    (many import_at c.args.count c.args.bytes.now) c.loop-test.true c.in_err-import.ensures c.loop.invariant)

pub loop-preserved : goal.loop-preserved
loop-preserved c =
    rw c.in_ok-push.ensures.items
    (goes_on import_at c.loop.imports.items c.args.count c.loop.counter c.loop.rest.now c.in_ok-import.import
    c.in_ok-import.after.now
    (many import_at c.args.count c.args.bytes.now) c.loop-test.true c.in_ok-import.ensures c.loop.invariant)

pub returns : goal.returns
returns c = is_done import_at c.loop.imports.items c.args.count c.loop.counter c.loop.rest.now
    (many import_at c.args.count c.args.bytes.now) c.loop-test.false c.loop.invariant
