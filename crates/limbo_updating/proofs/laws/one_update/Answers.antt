use Rattle.limbo_updating.proofs.Updated.{once}
use Rattle.limbo_updating.proofs.laws.one_update.Goals as goal

pub returns : goal.returns
returns c = once
