use Rattle.rows_places.proofs.Others as proved
use Rattle.rows_places.proofs.laws.other_goes.Goals as goal

pub returns : goal.returns
returns c = proved.other_goes
