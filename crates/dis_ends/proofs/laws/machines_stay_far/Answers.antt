use Rattle.dis_ends.proofs.Far as proved
use Rattle.dis_ends.proofs.laws.machines_stay_far.Goals as goal

pub returns : goal.returns
returns c = proved.machines_stay_far
