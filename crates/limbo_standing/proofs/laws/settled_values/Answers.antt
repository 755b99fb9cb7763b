use Rattle.limbo_standing.proofs.Settled.{settled_once, settled_stands, settled_itself}
use Rattle.limbo_standing.proofs.laws.settled_values.Goals as goal

pub returns : goal.returns
returns c = record { once = settled_once; stands = settled_stands; as_it_is = settled_itself }
