use Rattle.dis_memory.proofs.Fair as proved
use Rattle.dis_memory.proofs.laws.faults_change_nothing.Goals as goal

pub returns : goal.returns
returns c = proved.faults_change_nothing
