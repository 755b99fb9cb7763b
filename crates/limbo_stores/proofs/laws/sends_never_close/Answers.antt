use Rattle.limbo_stores.proofs.Places.{sends_never_close}
use Rattle.limbo_stores.proofs.laws.sends_never_close.Goals as goal

pub returns : goal.returns
returns c = sends_never_close
