use Rattle.limbo_rings.proofs.Writing.{fills_make_no_ring}
use Rattle.limbo_rings.proofs.laws.fills_make_no_ring.Goals as goal

pub returns : goal.returns
returns c = fills_make_no_ring
