use Rattle.rows_moving.proofs.Globals as proved
use Rattle.rows_moving.proofs.laws.globals_go.Goals as goal

pub returns : goal.returns
returns c = proved.globals_go
