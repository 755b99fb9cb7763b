use Rattle.rows_making.proofs.Same as proved
use Rattle.rows_making.proofs.laws.same_converts_go.Goals as goal

pub returns : goal.returns
returns c = proved.same_converts_go
