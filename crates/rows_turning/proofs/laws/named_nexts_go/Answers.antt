use Rattle.rows_turning.proofs.Nexts as proved
use Rattle.rows_turning.proofs.laws.named_nexts_go.Goals as goal

pub returns : goal.returns
returns c = proved.nexts_go
