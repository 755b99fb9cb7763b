use Rattle.rows_lists.proofs.Linking as proved
use Rattle.rows_lists.proofs.laws.conses_go.Goals as goal

pub returns : goal.returns
returns c = proved.conses_go
