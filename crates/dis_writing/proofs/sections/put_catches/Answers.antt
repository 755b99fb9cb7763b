use Rattle.std.proofs.lemmas.Result.{err_from_is_err_and}
use Rattle.std.specs.List.{flat_map}
use Rattle.dis_format.specs.Parts.{catch_parts}
use Rattle.dis_format.specs.Writing.{put_all}
use Rattle.dis_writing.proofs.Steps.{item_goes_on, item_ends}
use Rattle.dis_writing.proofs.sections.put_catches.Goals as goal

pub returns-in_err-put_catch : goal.returns-in_err-put_catch
returns-in_err-put_catch c =
    let p = err_from_is_err_and c.from_residual.result c.from_residual.ensures.1 in
    rw (p.1, p.2)
    (item_ends catch_parts c.in_err-put_catch.field-0.0 c.args.handlers.now c.loop-handler.handler-index
    c.handler-item.result c.loop-handler.out.items
    (put_all c.args.out.now.items (flat_map catch_parts c.args.handlers.now)) c.loop-handler-test.true
    c.handler-item.is c.in_err-put_catch.ensures
    c.loop-handler.invariant)

pub loop-handler-preserved : goal.loop-handler-preserved
loop-handler-preserved c =
    item_goes_on catch_parts c.args.handlers.now c.loop-handler.handler-index c.handler-item.result
    c.loop-handler.out.items c.put_catch.new.out.items
    (put_all c.args.out.now.items (flat_map catch_parts c.args.handlers.now)) c.loop-handler-test.true
    c.handler-item.is c.in_ok-put_catch.ensures
    c.loop-handler.invariant
