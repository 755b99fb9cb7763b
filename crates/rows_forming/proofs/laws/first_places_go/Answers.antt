use Rattle.rows_forming.proofs.Tagging as proved
use Rattle.rows_forming.proofs.laws.first_places_go.Goals as goal

pub returns : goal.returns
returns c = proved.first_places_go
