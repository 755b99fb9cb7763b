use Rattle.limbo_permits.proofs.Told.{settled_told}
use Rattle.limbo_permits.proofs.answering.is_settled.Goals as goal

pub returns : goal.returns
returns c = settled_told c.args.e.now c.is_settled.result c.is_settled.ensures
