use Rattle.number_effects.proofs.Records as proved
use Rattle.number_effects.proofs.laws.words_move.Goals as goal

pub returns : goal.returns
returns c = proved.words_move
