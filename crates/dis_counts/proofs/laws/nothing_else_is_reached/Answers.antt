use Rattle.dis_counts.proofs.Leading as proved
use Rattle.dis_counts.proofs.laws.nothing_else_is_reached.Goals as goal

pub returns : goal.returns
returns c = proved.nothing_else_is_reached
