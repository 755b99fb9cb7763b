use Rattle.dis_counts.proofs.Beginning as proved
use Rattle.dis_counts.proofs.laws.begins_alike.Goals as goal

pub returns : goal.returns
returns c = proved.begins_alike
