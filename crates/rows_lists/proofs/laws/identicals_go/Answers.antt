use Rattle.rows_lists.proofs.Identical as proved
use Rattle.rows_lists.proofs.laws.identicals_go.Goals as goal

pub returns : goal.returns
returns c = proved.identicals_go
