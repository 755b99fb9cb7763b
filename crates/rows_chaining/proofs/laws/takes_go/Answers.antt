use Rattle.rows_chaining.proofs.Takes as proved
use Rattle.rows_chaining.proofs.laws.takes_go.Goals as goal

pub returns : goal.returns
returns c = proved.takes_go
