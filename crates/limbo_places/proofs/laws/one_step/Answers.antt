use Rattle.limbo_places.proofs.Steps.{steps_once}
use Rattle.limbo_places.proofs.laws.one_step.Goals as goal

pub returns : goal.returns
returns c = steps_once
