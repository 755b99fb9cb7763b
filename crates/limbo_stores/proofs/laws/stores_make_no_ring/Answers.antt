use Rattle.limbo_stores.proofs.Rings.{stores_make_no_ring}
use Rattle.limbo_stores.proofs.laws.stores_make_no_ring.Goals as goal

pub returns : goal.returns
returns c = stores_make_no_ring
