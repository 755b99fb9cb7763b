use Rattle.limbo_stores.proofs.Places.{places_lie_in_holders}
use Rattle.limbo_stores.proofs.laws.places_lie_in_holders.Goals as goal

pub returns : goal.returns
returns c = places_lie_in_holders
