use Rattle.rows_lists.proofs.Arrays as proved
use Rattle.rows_lists.proofs.laws.arrays_go.Goals as goal

pub returns : goal.returns
returns c = proved.arrays_go
