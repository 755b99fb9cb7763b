use Rattle.rows_places.proofs.Writes as proved
use Rattle.rows_places.proofs.laws.element_writes_go.Goals as goal

pub returns : goal.returns
returns c = proved.element_writes_go
