use Rattle.rows_passing.proofs.Arguments as proved
use Rattle.rows_passing.proofs.laws.boxed_arguments_go.Goals as goal

pub returns : goal.returns
returns c = proved.boxed_arguments_go
