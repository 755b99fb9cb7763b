use Rattle.limbo_rings.proofs.Writing.{writes_make_no_ring}
use Rattle.limbo_rings.proofs.laws.writes_make_no_ring.Goals as goal

pub returns : goal.returns
returns c = writes_make_no_ring
