use Rattle.limbo_order.proofs.Orders.{not_itself}
use Rattle.limbo_order.proofs.laws.none_needs_itself.Goals as goal

pub returns : goal.returns
returns c = not_itself
