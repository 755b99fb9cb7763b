use Rattle.limbo_filling.proofs.Processes.{processes_stay_apart}
use Rattle.limbo_filling.proofs.Trees.{fills_stay_apart}
use Rattle.limbo_filling.proofs.laws.processes_stay_apart.Goals as goal

pub returns : goal.returns
returns c = processes_stay_apart fills_stay_apart
