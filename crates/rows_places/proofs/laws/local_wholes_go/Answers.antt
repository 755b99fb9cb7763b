use Rattle.rows_places.proofs.WholeWrites as proved
use Rattle.rows_places.proofs.laws.local_wholes_go.Goals as goal

pub returns : goal.returns
returns c = proved.local_wholes_go
