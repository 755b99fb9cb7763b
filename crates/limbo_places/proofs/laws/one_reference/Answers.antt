use Rattle.limbo_places.proofs.References.{refers_once}
use Rattle.limbo_places.proofs.laws.one_reference.Goals as goal

pub returns : goal.returns
returns c = refers_once
