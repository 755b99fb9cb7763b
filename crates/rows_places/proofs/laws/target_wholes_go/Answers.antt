use Rattle.rows_places.proofs.WholeWrites as proved
use Rattle.rows_places.proofs.laws.target_wholes_go.Goals as goal

pub returns : goal.returns
returns c = proved.target_wholes_go
