use Rattle.code_sim.proofs.Beginning.{begins}
use Rattle.code_sim.proofs.laws.machine_begins.Goals as goal

pub returns : goal.returns
returns c = begins
