use Rattle.rows_ending.proofs.Numbers as proved
use Rattle.rows_ending.proofs.laws.number_returns.Goals as goal

pub returns : goal.returns
returns c = proved.number_returns
