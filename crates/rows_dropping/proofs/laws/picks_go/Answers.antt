use Rattle.rows_dropping.proofs.Parting as proved
use Rattle.rows_dropping.proofs.laws.picks_go.Goals as goal

pub returns : goal.returns
returns c = proved.picks_go
