use Rattle.limbo_rings.proofs.Changing.{new_makes_no_ring}
use Rattle.limbo_rings.proofs.laws.new_makes_no_ring.Goals as goal

pub returns : goal.returns
returns c = new_makes_no_ring
