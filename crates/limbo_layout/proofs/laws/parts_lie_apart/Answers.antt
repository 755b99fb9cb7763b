use Rattle.limbo_layout.proofs.Placed.{parts_apart}
use Rattle.limbo_layout.proofs.laws.parts_lie_apart.Goals as goal

pub returns : goal.returns
returns c = parts_apart
