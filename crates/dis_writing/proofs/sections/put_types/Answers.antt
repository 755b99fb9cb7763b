use Rattle.std.proofs.lemmas.Result.{err_from_is_err_and}
use Rattle.dis_format.specs.Parts.{types_parts}
use Rattle.dis_format.specs.Writing.{put_all}
use Rattle.dis_writing.proofs.Steps.{types_go_on, types_end}
use Rattle.dis_writing.proofs.sections.put_types.Goals as goal

pub returns-in_err-put_type : goal.returns-in_err-put_type
returns-in_err-put_type c =
    let p = err_from_is_err_and c.from_residual.result c.from_residual.ensures.1 in
    rw (p.1, p.2)
    (types_end c.in_err-put_type.field-0.0 c.args.types.now c.loop-place.place c.index-types-place.result
    c.loop-place.out.items
    (put_all c.args.out.now.items (types_parts 0 c.args.types.now)) c.loop-place-test.true c.index-types-place.is
    c.in_err-put_type.ensures c.loop-place.invariant)

pub loop-place-preserved : goal.loop-place-preserved
loop-place-preserved c =
    types_go_on c.args.types.now c.loop-place.place c.index-types-place.result c.loop-place.out.items
    c.put_type.new.out.items
    (put_all c.args.out.now.items (types_parts 0 c.args.types.now)) c.loop-place-test.true c.index-types-place.is
    c.in_ok-put_type.ensures c.loop-place.invariant
