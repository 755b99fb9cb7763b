use Rattle.rows_boxes.proofs.BigRows as proved
use Rattle.rows_boxes.proofs.laws.big_literals_go.Goals as goal

pub returns : goal.returns
returns c = proved.big_literals_go
