use Rattle.rows_places.proofs.FillingWholes as proved
use Rattle.rows_places.proofs.laws.element_whole_goes.Goals as goal

pub returns : goal.returns
returns c = proved.element_whole_goes
