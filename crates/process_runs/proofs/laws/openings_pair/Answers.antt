use Rattle.process_runs.proofs.Beside.{openings_pair}
use Rattle.process_runs.proofs.laws.openings_pair.Goals as goal

pub returns : goal.returns
returns g c = openings_pair g.S.Sharing.sides
