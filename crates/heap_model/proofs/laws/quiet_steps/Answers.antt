use Rattle.heap_model.proofs.Staying.{quiet_steps}
use Rattle.heap_model.proofs.laws.quiet_steps.Goals as goal

pub returns : goal.returns
returns g c = quiet_steps g.row.V.Denot g.row.O.Denot g.row.P.Denot g.row.D.Denot g.row.M.Denot g.row.A.Denot g.row.H.Denot
