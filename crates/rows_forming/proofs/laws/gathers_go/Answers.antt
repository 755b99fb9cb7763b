use Rattle.rows_forming.proofs.Gathers as proved
use Rattle.rows_forming.proofs.laws.gathers_go.Goals as goal

pub returns : goal.returns
returns c = proved.gathers_go
