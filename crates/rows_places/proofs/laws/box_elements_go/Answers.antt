use Rattle.rows_places.proofs.BoxElements as proved
use Rattle.rows_places.proofs.laws.box_elements_go.Goals as goal

pub returns : goal.returns
returns c = proved.box_elements_go
