use Rattle.rows_calling.proofs.Replies as proved
use Rattle.rows_calling.proofs.laws.replies_go.Goals as goal

pub returns : goal.returns
returns c = proved.replies_go
