use Rattle.rows_places.proofs.WholeWrites as proved
use Rattle.rows_places.proofs.laws.global_wholes_go.Goals as goal

pub returns : goal.returns
returns c = proved.global_wholes_go
