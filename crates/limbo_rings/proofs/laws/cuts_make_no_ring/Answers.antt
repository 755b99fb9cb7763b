use Rattle.limbo_rings.proofs.Running.{cuts_make_no_ring}
use Rattle.limbo_rings.proofs.laws.cuts_make_no_ring.Goals as goal

pub returns : goal.returns
returns c = cuts_make_no_ring
