use Rattle.rows_texts.proofs.TextBytes as proved
use Rattle.rows_texts.proofs.laws.text_bytes_go.Goals as goal

pub returns : goal.returns
returns c = proved.text_bytes_go
