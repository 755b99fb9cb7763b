use Rattle.heap_model.proofs.Staying.{what_stays}
use Rattle.heap_model.proofs.laws.what_stays.Goals as goal

pub returns : goal.returns
returns g c = what_stays g.row.A.Denot
