use Rattle.limbo_places.proofs.Elements.{indexed_once}
use Rattle.limbo_places.proofs.laws.one_index.Goals as goal

pub returns : goal.returns
returns c = indexed_once
