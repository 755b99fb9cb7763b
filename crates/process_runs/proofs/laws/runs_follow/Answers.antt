use Rattle.process_runs.proofs.Beside.{runs_follow}
use Rattle.process_runs.proofs.laws.runs_follow.Goals as goal

pub returns : goal.returns
returns g c = runs_follow g.S.Sharing.sides
