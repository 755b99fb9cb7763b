use Rattle.rows_chaining.proofs.Keeping as proved
use Rattle.rows_chaining.proofs.laws.keeps_go.Goals as goal

pub returns : goal.returns
returns c = proved.keeps_go
