use Rattle.block_effects.proofs.Strings as proved
use Rattle.block_effects.proofs.laws.strings_come.Goals as goal

pub returns : goal.returns
returns c = proved.strings_come
