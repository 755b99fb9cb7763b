use Rattle.rows_answers.proofs.Starting as proved
use Rattle.rows_answers.proofs.laws.starts_go.Goals as goal

pub returns : goal.returns
returns c = proved.starts_go
