use Rattle.rows_boxes.proofs.Compares as proved
use Rattle.rows_boxes.proofs.laws.big_compares_go.Goals as goal

pub returns : goal.returns
returns c = proved.big_compares_go
