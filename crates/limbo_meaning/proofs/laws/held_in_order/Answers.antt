use Rattle.limbo_meaning.proofs.Holding.{held_in_order}
use Rattle.limbo_meaning.proofs.laws.held_in_order.Goals as goal

pub returns : goal.returns
returns c = held_in_order
