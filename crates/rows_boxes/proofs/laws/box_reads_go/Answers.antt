use Rattle.rows_boxes.proofs.Variables as proved
use Rattle.rows_boxes.proofs.laws.box_reads_go.Goals as goal

pub returns : goal.returns
returns c = proved.box_reads_go
