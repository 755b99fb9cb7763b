use Rattle.limbo_rings.proofs.Stepping.{steps_do}
use Rattle.limbo_rings.proofs.laws.steps_do.Goals as goal

pub returns : goal.returns
returns c = steps_do
