use Rattle.limbo_meaning.proofs.Alone.{runs_compute}
use Rattle.limbo_meaning.proofs.laws.runs_compute.Goals as goal

pub returns : goal.returns
returns c = runs_compute
