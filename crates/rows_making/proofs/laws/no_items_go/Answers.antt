use Rattle.rows_making.proofs.NoItems as proved
use Rattle.rows_making.proofs.laws.no_items_go.Goals as goal

pub returns : goal.returns
returns c = proved.no_items_go
