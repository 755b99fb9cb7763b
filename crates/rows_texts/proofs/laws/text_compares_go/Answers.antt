use Rattle.rows_texts.proofs.Comparing as proved
use Rattle.rows_texts.proofs.laws.text_compares_go.Goals as goal

pub returns : goal.returns
returns c = proved.text_compares_go
