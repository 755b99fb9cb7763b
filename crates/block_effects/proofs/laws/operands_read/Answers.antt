use Rattle.block_effects.proofs.Giving as proved
use Rattle.block_effects.proofs.laws.operands_read.Goals as goal

pub returns : goal.returns
returns c = proved.operands_read
