use Rattle.rows_lists.proofs.Chaining as proved
use Rattle.rows_lists.proofs.laws.cells_go.Goals as goal

pub returns : goal.returns
returns c = proved.cells_go
