use Rattle.block_effects.proofs.Counting as proved
use Rattle.block_effects.proofs.laws.lists_are_counted.Goals as goal

pub returns : goal.returns
returns c = proved.lists_are_counted
