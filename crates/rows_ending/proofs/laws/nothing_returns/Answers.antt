use Rattle.rows_ending.proofs.Endings as proved
use Rattle.rows_ending.proofs.laws.nothing_returns.Goals as goal

pub returns : goal.returns
returns c = proved.nothing_returns
