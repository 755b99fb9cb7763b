use Rattle.limbo_stores.proofs.Places.{parts_lie_in}
use Rattle.limbo_stores.proofs.laws.parts_lie_in.Goals as goal

pub returns : goal.returns
returns c = parts_lie_in
