use Rattle.block_effects.proofs.Giving as proved
use Rattle.block_effects.proofs.laws.stores_behind.Goals as goal

pub returns : goal.returns
returns c = proved.stores_behind
