use Rattle.rows_answers.proofs.BoxReturns as proved
use Rattle.rows_answers.proofs.laws.box_returns.Goals as goal

pub returns : goal.returns
returns c = proved.box_returns
