use Rattle.rows_places.proofs.Targets as proved
use Rattle.rows_places.proofs.laws.targets_go.Goals as goal

pub returns : goal.returns
returns c = proved.targets_go
