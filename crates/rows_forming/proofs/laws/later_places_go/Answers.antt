use Rattle.rows_forming.proofs.Opening as proved
use Rattle.rows_forming.proofs.laws.later_places_go.Goals as goal

pub returns : goal.returns
returns c = proved.later_places_go
