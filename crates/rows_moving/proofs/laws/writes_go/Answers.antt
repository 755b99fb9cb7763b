use Rattle.rows_moving.proofs.Writing as proved
use Rattle.rows_moving.proofs.laws.writes_go.Goals as goal

pub returns : goal.returns
returns c = proved.writes_go
