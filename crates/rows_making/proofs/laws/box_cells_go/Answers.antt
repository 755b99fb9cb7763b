use Rattle.rows_making.proofs.BoxConses as proved
use Rattle.rows_making.proofs.laws.box_cells_go.Goals as goal

pub returns : goal.returns
returns c = proved.box_cells_go
