use Rattle.rows_lists.proofs.Lengths as proved
use Rattle.rows_lists.proofs.laws.counts_go.Goals as goal

pub returns : goal.returns
returns c = proved.counts_go
