use Rattle.limbo_heads.proofs.Single.{one_star}
use Rattle.limbo_heads.proofs.once.has_one_star.Goals as goal

pub returns : goal.returns
returns c = one_star c.args.arms.now c.stars.result c.stars.ensures
