use Rattle.block_effects.proofs.Copying as proved
use Rattle.block_effects.proofs.laws.words_are_copied.Goals as goal

pub returns : goal.returns
returns c = proved.words_are_copied
