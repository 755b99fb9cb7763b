use Rattle.rows_lists.proofs.Lists as proved
use Rattle.rows_lists.proofs.laws.heads_go.Goals as goal

pub returns : goal.returns
returns c = proved.heads_go
