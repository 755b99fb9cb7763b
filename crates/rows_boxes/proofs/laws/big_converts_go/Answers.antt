use Rattle.rows_boxes.proofs.BigWorks as proved
use Rattle.rows_boxes.proofs.laws.big_converts_go.Goals as goal

pub returns : goal.returns
returns c = proved.big_converts_go
