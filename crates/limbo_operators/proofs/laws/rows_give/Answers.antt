use Rattle.limbo_operators.proofs.Giving.{binary_gives}
use Rattle.limbo_operators.proofs.laws.rows_give.Goals as goal

pub returns : goal.returns
returns c = binary_gives
