use Rattle.rows_answers.proofs.ZeroReturns as proved
use Rattle.rows_answers.proofs.laws.zero_returns.Goals as goal

pub returns : goal.returns
returns c = proved.zero_returns
