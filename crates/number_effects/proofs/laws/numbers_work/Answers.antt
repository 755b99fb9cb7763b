use Rattle.number_effects.proofs.Numbers as proved
use Rattle.number_effects.proofs.laws.numbers_work.Goals as goal

pub returns : goal.returns
returns c = proved.numbers_work
