use Rattle.block_effects.proofs.Referring as proved
use Rattle.block_effects.proofs.laws.blocks_are_such.Goals as goal

pub returns : goal.returns
returns c = proved.blocks_are_such
