use Rattle.rows_answers.proofs.References as proved
use Rattle.rows_answers.proofs.laws.reference_returns.Goals as goal

pub returns : goal.returns
returns c = proved.reference_returns
