use Rattle.rows_moving.proofs.Reading as proved
use Rattle.rows_moving.proofs.laws.reads_go.Goals as goal

pub returns : goal.returns
returns c = proved.reads_go
