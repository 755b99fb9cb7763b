use Rattle.limbo_standing.proofs.Elements.{joins_once}
use Rattle.limbo_standing.proofs.laws.one_type.Goals as goal

pub returns : goal.returns
returns c = joins_once
