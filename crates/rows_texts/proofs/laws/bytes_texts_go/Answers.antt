use Rattle.rows_texts.proofs.BytesTexts as proved
use Rattle.rows_texts.proofs.laws.bytes_texts_go.Goals as goal

pub returns : goal.returns
returns c = proved.bytes_texts_go
