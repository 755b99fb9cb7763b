use Rattle.rows_copying.proofs.Rows as proved
use Rattle.rows_copying.proofs.laws.copies_go.Goals as goal

pub returns : goal.returns
returns c = proved.copy_intos_go
