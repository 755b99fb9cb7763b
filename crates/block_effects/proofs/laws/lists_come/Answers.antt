use Rattle.block_effects.proofs.Lists as proved
use Rattle.block_effects.proofs.laws.lists_come.Goals as goal

pub returns : goal.returns
returns c = proved.lists_come
