use Rattle.limbo_meaning.proofs.Owning.{processes_own}
use Rattle.limbo_meaning.proofs.laws.processes_own.Goals as goal

pub returns : goal.returns
returns c = processes_own
