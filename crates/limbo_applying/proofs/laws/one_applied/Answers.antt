use Rattle.limbo_applying.proofs.Once.{applied_once}
use Rattle.limbo_applying.proofs.laws.one_applied.Goals as goal

pub returns : goal.returns
returns c = applied_once
