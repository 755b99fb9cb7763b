use Rattle.limbo_rings.proofs.Finite.{no_rings_none_lost}
use Rattle.limbo_rings.proofs.laws.no_rings_none_lost.Goals as goal

pub returns : goal.returns
returns g c = no_rings_none_lost
