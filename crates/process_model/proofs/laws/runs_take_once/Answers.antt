use Rattle.process_model.proofs.Once.{runs_take_once}
use Rattle.process_model.proofs.laws.runs_take_once.Goals as goal

pub returns : goal.returns
returns g c = runs_take_once g.row.W.Denot g.row.P.Denot g.row.D.Denot g.row.M.Denot g.row.A.Denot g.row.H.Denot
