use Rattle.dis_counts.proofs.Exact as proved
use Rattle.dis_counts.proofs.laws.opening_counts.Goals as goal

pub returns : goal.returns
returns c = proved.opening_counts
