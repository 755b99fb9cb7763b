use Rattle.limbo_stores.proofs.Places.{stores_never_close}
use Rattle.limbo_stores.proofs.laws.stores_never_close.Goals as goal

pub returns : goal.returns
returns c = stores_never_close
