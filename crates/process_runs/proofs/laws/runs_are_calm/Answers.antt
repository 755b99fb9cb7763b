use Rattle.process_runs.proofs.Beside.{runs_are_calm}
use Rattle.process_runs.proofs.laws.runs_are_calm.Goals as goal

pub returns : goal.returns
returns g c = runs_are_calm g.S.Sharing.sides
