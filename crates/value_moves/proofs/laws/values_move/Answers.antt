use Rattle.value_moves.proofs.Moving as proved
use Rattle.value_moves.proofs.laws.values_move.Goals as goal

pub returns : goal.returns
returns c = proved.values_move
