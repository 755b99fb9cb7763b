use Rattle.rows_places.proofs.BoxTargets as proved
use Rattle.rows_places.proofs.laws.box_targets_go.Goals as goal

pub returns : goal.returns
returns c = proved.box_targets_go
