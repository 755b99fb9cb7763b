use Rattle.dis_limits.proofs.References as proved
use Rattle.dis_limits.proofs.laws.limits_stay_far.Goals as goal

pub returns : goal.returns
returns c = proved.limits_stay_far
