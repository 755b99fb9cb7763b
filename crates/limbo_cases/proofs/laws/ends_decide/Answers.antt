use Rattle.limbo_cases.proofs.Orders.{ends_decide}
use Rattle.limbo_cases.proofs.laws.ends_decide.Goals as goal

pub returns : goal.returns
returns g c a b = ends_decide g.met.T.Ord.total a b
