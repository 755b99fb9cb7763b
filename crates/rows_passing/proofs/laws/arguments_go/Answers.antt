use Rattle.rows_passing.proofs.Arguments as proved
use Rattle.rows_passing.proofs.laws.arguments_go.Goals as goal

pub returns : goal.returns
returns c = proved.arguments_go
