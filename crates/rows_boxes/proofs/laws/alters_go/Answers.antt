use Rattle.rows_boxes.proofs.Singles as proved
use Rattle.rows_boxes.proofs.laws.alters_go.Goals as goal

pub returns : goal.returns
returns c = proved.alters_go
