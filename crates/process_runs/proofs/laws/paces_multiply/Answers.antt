use Rattle.process_runs.proofs.Paces.{paces_multiply}
use Rattle.process_runs.proofs.laws.paces_multiply.Goals as goal

pub returns : goal.returns
returns c = paces_multiply
