use Rattle.limbo_rings.proofs.Writing.{copies_make_no_ring}
use Rattle.limbo_rings.proofs.laws.copies_make_no_ring.Goals as goal

pub returns : goal.returns
returns c = copies_make_no_ring
