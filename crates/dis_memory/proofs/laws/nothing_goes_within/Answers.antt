use Rattle.dis_memory.proofs.Fair as proved
use Rattle.dis_memory.proofs.laws.nothing_goes_within.Goals as goal

pub returns : goal.returns
returns c = proved.nothing_goes_within
