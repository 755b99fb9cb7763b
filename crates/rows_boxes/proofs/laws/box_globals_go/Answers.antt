use Rattle.rows_boxes.proofs.Globals as proved
use Rattle.rows_boxes.proofs.laws.box_globals_go.Goals as goal

pub returns : goal.returns
returns c = proved.box_globals_go
