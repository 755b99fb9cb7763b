use Rattle.rows_making.proofs.Refs as proved
use Rattle.rows_making.proofs.laws.refs_go.Goals as goal

pub returns : goal.returns
returns c = proved.refs_go
