use Rattle.rows_lists.proofs.Tags as proved
use Rattle.rows_lists.proofs.laws.tags_go.Goals as goal

pub returns : goal.returns
returns c = proved.tags_go
