use Rattle.rows_forming.proofs.NoOperands as proved
use Rattle.rows_forming.proofs.laws.empty_gathers_go.Goals as goal

pub returns : goal.returns
returns c = proved.empty_gathers_go
