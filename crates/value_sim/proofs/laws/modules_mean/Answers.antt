use Rattle.value_sim.proofs.Meaning.{modules_mean}
use Rattle.value_sim.proofs.laws.modules_mean.Goals as goal

pub returns : goal.returns
returns c = modules_mean
