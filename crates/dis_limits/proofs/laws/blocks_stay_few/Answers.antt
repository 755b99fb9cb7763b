use Rattle.dis_limits.proofs.Blocks as proved
use Rattle.dis_limits.proofs.laws.blocks_stay_few.Goals as goal

pub returns : goal.returns
returns c = proved.blocks_stay_few
