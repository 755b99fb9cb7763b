use Rattle.number_effects.proofs.Reading as proved
use Rattle.number_effects.proofs.laws.operands_are_read.Goals as goal

pub returns : goal.returns
returns c = proved.operands_are_read
