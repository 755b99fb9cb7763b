use Rattle.rows_texts.proofs.Joining as proved
use Rattle.rows_texts.proofs.laws.joins_go.Goals as goal

pub returns : goal.returns
returns c = proved.joins_go
