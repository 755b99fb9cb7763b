use Rattle.limbo_heads.proofs.Labelled.{more_patterns}
use Rattle.limbo_heads.proofs.apart.patterns_in.Goals as goal

pub loop-arm-preserved : goal.loop-arm-preserved
loop-arm-preserved c =
    more_patterns c.args.arms.now c.loop-arm.arm-index c.arm-item.result c.loop-arm.all.items c.push_patterns.new.all.items
    c.deref.result.now c.arm-item.is c.loop-arm-test.true c.deref.ensures.value c.in_ok-push_patterns.ensures c.loop-arm.invariant
