use Rattle.limbo_heads.proofs.Single.{more_variants}
use Rattle.limbo_heads.proofs.once.variants_in.Goals as goal

pub loop-arm-preserved : goal.loop-arm-preserved
loop-arm-preserved c =
    more_variants c.args.arms.now c.loop-arm.arm-index c.arm-item.result c.loop-arm.labels.items c.push_singles.new.labels.items
    c.deref.result.now c.arm-item.is c.loop-arm-test.true c.deref.ensures.value c.in_ok-push_singles.ensures c.loop-arm.invariant
