use Rattle.value_follows.proofs.RootedProcesses as processes
use Rattle.value_follows.proofs.laws.stands_rooted.Goals as goal

pub returns : goal.returns
returns c = processes.stands_rooted
