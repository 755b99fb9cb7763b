use Rattle.value_opening.proofs.Data as proved
use Rattle.value_opening.proofs.laws.words_made.Goals as goal

pub returns : goal.returns
returns c = proved.words_made
