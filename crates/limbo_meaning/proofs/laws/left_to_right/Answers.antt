use Rattle.limbo_meaning.proofs.Order.{left_to_right}
use Rattle.limbo_meaning.proofs.laws.left_to_right.Goals as goal

pub returns : goal.returns
returns c = left_to_right
