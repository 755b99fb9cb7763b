use Rattle.rows_calling.proofs.Sound as proved
use Rattle.rows_calling.proofs.laws.sound_functions_begin.Goals as goal

pub returns : goal.returns
returns c = proved.sound_functions_begin
