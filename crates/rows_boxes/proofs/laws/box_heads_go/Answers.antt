use Rattle.rows_boxes.proofs.HeadRows as proved
use Rattle.rows_boxes.proofs.laws.box_heads_go.Goals as goal

pub returns : goal.returns
returns c = proved.box_heads_go
