use Rattle.limbo_places.proofs.Targets.{selects_once}
use Rattle.limbo_places.proofs.laws.one_part.Goals as goal

pub returns : goal.returns
returns c = selects_once
