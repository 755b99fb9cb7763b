use Rattle.rows_places.proofs.ElementReads as proved
use Rattle.rows_places.proofs.laws.elements_go.Goals as goal

pub returns : goal.returns
returns c = proved.elements_go
