use Rattle.std.proofs.lemmas.Result.{err_from_is_err_and}
use Rattle.std.specs.List.{flat_map}
use Rattle.dis_format.specs.Parts.{arm_parts}
use Rattle.dis_format.specs.Writing.{put_all}
use Rattle.dis_writing.proofs.Steps.{item_goes_on, item_ends}
use Rattle.dis_writing.proofs.sections.put_arms.Goals as goal

pub returns-in_err-put_arm : goal.returns-in_err-put_arm
returns-in_err-put_arm c =
    let p = err_from_is_err_and c.from_residual.result c.from_residual.ensures.1 in
    rw (p.1, p.2)
    (item_ends arm_parts c.in_err-put_arm.field-0.0 c.args.arms.now c.loop-arm.arm-index c.arm-item.result
    c.loop-arm.out.items
    (put_all c.args.out.now.items (flat_map arm_parts c.args.arms.now)) c.loop-arm-test.true c.arm-item.is
    c.in_err-put_arm.ensures
    c.loop-arm.invariant)

pub loop-arm-preserved : goal.loop-arm-preserved
loop-arm-preserved c =
    item_goes_on arm_parts c.args.arms.now c.loop-arm.arm-index c.arm-item.result c.loop-arm.out.items
    c.put_arm.new.out.items
    (put_all c.args.out.now.items (flat_map arm_parts c.args.arms.now)) c.loop-arm-test.true c.arm-item.is
    c.in_ok-put_arm.ensures
    c.loop-arm.invariant
