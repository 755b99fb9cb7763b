use Rattle.rows_dropping.proofs.Drops as proved
use Rattle.rows_dropping.proofs.laws.drops_go.Goals as goal

pub returns : goal.returns
returns c = proved.drops_go
