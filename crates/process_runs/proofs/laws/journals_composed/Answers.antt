use Rattle.process_runs.proofs.Composed.{journals_composed}
use Rattle.process_runs.proofs.laws.journals_composed.Goals as goal

pub returns : goal.returns
returns g c = journals_composed g.C.Composing.first g.C.Composing.second
