use Rattle.dis_counts.proofs.Unreached as proved
use Rattle.dis_counts.proofs.laws.only_reached_counts.Goals as goal

pub returns : goal.returns
returns c = proved.only_reached_counts
