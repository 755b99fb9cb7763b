use Rattle.rows_texts.proofs.NumberTexts as proved
use Rattle.rows_texts.proofs.laws.number_texts_go.Goals as goal

pub returns : goal.returns
returns c = proved.number_texts_go
