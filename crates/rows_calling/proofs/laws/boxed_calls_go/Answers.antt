use Rattle.rows_calling.proofs.Boxed as proved
use Rattle.rows_calling.proofs.laws.boxed_calls_go.Goals as goal

pub returns : goal.returns
returns c = proved.boxed_calls_go
