use Rattle.rows_calling.proofs.Plain as proved
use Rattle.rows_calling.proofs.laws.plain_calls_go.Goals as goal

pub returns : goal.returns
returns c = proved.plain_calls_go
