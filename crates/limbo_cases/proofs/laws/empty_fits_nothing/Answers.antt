use Rattle.limbo_cases.proofs.Orders.{chain, not_before}
use Rattle.limbo_cases.proofs.laws.empty_fits_nothing.Goals as goal

pub returns : goal.returns
returns g c a value less f =
    not_before g.met.T.Ord.total a.low a.high (chain g.met.T.Ord.total a.low value a.high f.low f.high) less
