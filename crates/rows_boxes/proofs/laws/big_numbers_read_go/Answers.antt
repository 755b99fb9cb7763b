use Rattle.rows_boxes.proofs.Texts as proved
use Rattle.rows_boxes.proofs.laws.big_numbers_read_go.Goals as goal

pub returns : goal.returns
returns c = proved.big_numbers_read_go
