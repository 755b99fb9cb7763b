use Rattle.rows_ending.proofs.Endings as proved
use Rattle.rows_ending.proofs.laws.ends_go.Goals as goal

pub returns : goal.returns
returns c = proved.ends_go
