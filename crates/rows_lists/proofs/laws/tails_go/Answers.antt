use Rattle.rows_lists.proofs.Lists as proved
use Rattle.rows_lists.proofs.laws.tails_go.Goals as goal

pub returns : goal.returns
returns c = proved.tails_go
