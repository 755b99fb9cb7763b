use Rattle.dis_counts.proofs.Exact as proved
use Rattle.dis_counts.proofs.laws.events_keep_counts.Goals as goal

pub returns : goal.returns
returns c = proved.events_keep_counts
