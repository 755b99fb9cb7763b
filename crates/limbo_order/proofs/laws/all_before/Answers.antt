use Rattle.limbo_order.proofs.Orders.{before}
use Rattle.limbo_order.proofs.laws.all_before.Goals as goal

pub returns : goal.returns
returns c = λ rows order o n m i w h. before rows order o n m w i h
