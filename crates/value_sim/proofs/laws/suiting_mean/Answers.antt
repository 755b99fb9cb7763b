use Rattle.value_sim.proofs.Meaning.{suiting_mean}
use Rattle.value_sim.proofs.laws.suiting_mean.Goals as goal

pub returns : goal.returns
returns c = suiting_mean
