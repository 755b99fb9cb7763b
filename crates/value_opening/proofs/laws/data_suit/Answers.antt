use Rattle.value_opening.proofs.Suiting as proved
use Rattle.value_opening.proofs.laws.data_suit.Goals as goal

pub returns : goal.returns
returns c = proved.data_suit
