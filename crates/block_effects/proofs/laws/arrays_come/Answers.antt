use Rattle.block_effects.proofs.Arrays as proved
use Rattle.block_effects.proofs.laws.arrays_come.Goals as goal

pub returns : goal.returns
returns c = proved.arrays_come
