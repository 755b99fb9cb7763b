use Rattle.rows_texts.proofs.Slicing as proved
use Rattle.rows_texts.proofs.laws.slices_go.Goals as goal

pub returns : goal.returns
returns c = proved.slices_go
