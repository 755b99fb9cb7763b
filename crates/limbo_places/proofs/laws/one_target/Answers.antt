use Rattle.limbo_places.proofs.Targets.{target_once}
use Rattle.limbo_places.proofs.laws.one_target.Goals as goal

pub returns : goal.returns
returns c = target_once
