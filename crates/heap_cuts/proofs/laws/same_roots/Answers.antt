use Rattle.heap_cuts.proofs.Told.{stays_same}
use Rattle.heap_cuts.proofs.laws.same_roots.Goals as goal

pub returns : goal.returns
returns g c inside roots roots' h e = stays_same inside roots roots' h e
