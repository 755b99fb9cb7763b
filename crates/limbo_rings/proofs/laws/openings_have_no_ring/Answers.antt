use Rattle.limbo_rings.proofs.Running.{openings_have_no_ring}
use Rattle.limbo_rings.proofs.laws.openings_have_no_ring.Goals as goal

pub returns : goal.returns
returns c = openings_have_no_ring
