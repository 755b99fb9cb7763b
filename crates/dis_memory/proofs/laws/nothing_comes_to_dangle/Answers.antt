use Rattle.dis_memory.proofs.Keeping as proved
use Rattle.dis_memory.proofs.laws.nothing_comes_to_dangle.Goals as goal

pub returns : goal.returns
returns c = proved.nothing_comes_to_dangle
