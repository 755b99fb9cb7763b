use Rattle.rows_places.proofs.OtherWholes as proved
use Rattle.rows_places.proofs.laws.other_whole_goes.Goals as goal

pub returns : goal.returns
returns c = proved.other_whole_goes
