use Rattle.value_moves.proofs.Changing as proved
use Rattle.value_moves.proofs.laws.words_change.Goals as goal

pub returns : goal.returns
returns c = proved.words_change
