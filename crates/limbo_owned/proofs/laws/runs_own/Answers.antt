use Rattle.limbo_owned.proofs.Owned.{runs_own}
use Rattle.limbo_owned.proofs.laws.runs_own.Goals as goal

pub returns : goal.returns
returns c = runs_own
