use Rattle.rows_places.proofs.WholeWrites as proved
use Rattle.rows_places.proofs.laws.element_wholes_go.Goals as goal

pub returns : goal.returns
returns c = proved.element_wholes_go
