use Rattle.rows_texts.proofs.Lengths as proved
use Rattle.rows_texts.proofs.laws.lengths_go.Goals as goal

pub returns : goal.returns
returns c = proved.lengths_go
