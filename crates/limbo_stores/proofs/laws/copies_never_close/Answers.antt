use Rattle.limbo_stores.proofs.Places.{copies_never_close}
use Rattle.limbo_stores.proofs.laws.copies_never_close.Goals as goal

pub returns : goal.returns
returns c = copies_never_close
