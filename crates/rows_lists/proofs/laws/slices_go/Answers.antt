use Rattle.rows_lists.proofs.Slices as proved
use Rattle.rows_lists.proofs.laws.slices_go.Goals as goal

pub returns : goal.returns
returns c = proved.slices_go
