use Rattle.block_effects.proofs.ByteArrays as proved
use Rattle.block_effects.proofs.laws.bytes_are_copied.Goals as goal

pub returns : goal.returns
returns c = proved.bytes_are_copied
