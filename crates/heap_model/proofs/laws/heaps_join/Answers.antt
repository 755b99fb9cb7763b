use Rattle.heap_model.proofs.Staying.{heaps_join}
use Rattle.heap_model.proofs.laws.heaps_join.Goals as goal

pub returns : goal.returns
returns g c = λ on later. heaps_join g.J.TwoHeaps.parts on later
