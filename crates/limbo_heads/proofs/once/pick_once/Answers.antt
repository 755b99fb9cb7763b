use Rattle.limbo_heads.proofs.Single.{picked_once}
use Rattle.limbo_heads.proofs.once.pick_once.Goals as goal

pub returns-then-once : goal.returns-then-once
returns-then-once c = picked_once c.args.arms.now c.nameless.result c.nameless.ensures (c.in_ok-once.ensures.0 c.if-once.true)
