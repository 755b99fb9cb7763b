use Rattle.limbo_operators.proofs.Table.{binary_once}
use Rattle.limbo_operators.proofs.laws.one_row.Goals as goal

pub returns : goal.returns
returns c = binary_once
