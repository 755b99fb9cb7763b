use Rattle.rows_making.proofs.BoxConses as proved
use Rattle.rows_making.proofs.laws.box_conses_go.Goals as goal

pub returns : goal.returns
returns c = proved.box_conses_go
