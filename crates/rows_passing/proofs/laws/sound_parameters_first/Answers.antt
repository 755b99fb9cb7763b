use Rattle.rows_passing.proofs.Sound as proved
use Rattle.rows_passing.proofs.laws.sound_parameters_first.Goals as goal

pub returns : goal.returns
returns c = proved.sound_parameters_first
