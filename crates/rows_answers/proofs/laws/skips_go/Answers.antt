use Rattle.rows_answers.proofs.Skipping as proved
use Rattle.rows_answers.proofs.laws.skips_go.Goals as goal

pub returns : goal.returns
returns c = proved.skips_go
