use Rattle.rows_places.proofs.Writes as proved
use Rattle.rows_places.proofs.laws.target_writes_go.Goals as goal

pub returns : goal.returns
returns c = proved.target_writes_go
