use Rattle.heap_cuts.proofs.Told.{gone_told, stays_told}
use Rattle.heap_cuts.proofs.laws.mapped.Goals as goal

pub returns-clause-stays : goal.returns-clause-stays
returns-clause-stays g c f inside inside' roots h e = stays_told f inside inside' roots h e

pub returns-clause-gone : goal.returns-clause-gone
returns-clause-gone g c f inside inside' roots h e = gone_told f inside inside' roots h e
