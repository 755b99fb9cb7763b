use Rattle.dis_counts.proofs.Exact as proved
use Rattle.dis_counts.proofs.laws.counts_stay_exact.Goals as goal

pub returns : goal.returns
returns c = proved.counts_stay_exact
