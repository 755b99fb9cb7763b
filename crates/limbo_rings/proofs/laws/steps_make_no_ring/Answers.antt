use Rattle.limbo_rings.proofs.Stepping.{steps_make_no_ring}
use Rattle.limbo_rings.proofs.laws.steps_make_no_ring.Goals as goal

pub returns : goal.returns
returns c = steps_make_no_ring
