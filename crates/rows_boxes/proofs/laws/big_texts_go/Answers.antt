use Rattle.rows_boxes.proofs.BigTexts as proved
use Rattle.rows_boxes.proofs.laws.big_texts_go.Goals as goal

pub returns : goal.returns
returns c = proved.big_texts_go
