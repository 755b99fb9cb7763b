use Rattle.rows_texts.proofs.Readings as proved
use Rattle.rows_texts.proofs.laws.readings_go.Goals as goal

pub returns : goal.returns
returns c = proved.readings_go
