use Rattle.dis_counts.proofs.Ending as proved
use Rattle.dis_counts.proofs.laws.ends_let_go.Goals as goal

pub returns : goal.returns
returns c = proved.ends_let_go
