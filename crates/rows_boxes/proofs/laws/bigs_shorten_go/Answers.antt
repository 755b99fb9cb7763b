use Rattle.rows_boxes.proofs.Shortening as proved
use Rattle.rows_boxes.proofs.laws.bigs_shorten_go.Goals as goal

pub returns : goal.returns
returns c = proved.bigs_shorten_go
