use Rattle.rows_moving.proofs.References as proved
use Rattle.rows_moving.proofs.laws.nils_go.Goals as goal

pub returns : goal.returns
returns c = proved.nils_go
