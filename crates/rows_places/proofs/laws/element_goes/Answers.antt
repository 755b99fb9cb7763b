use Rattle.rows_places.proofs.Filling as proved
use Rattle.rows_places.proofs.laws.element_goes.Goals as goal

pub returns : goal.returns
returns c = proved.element_goes
