use Rattle.dis_meaning.proofs.Faults as proved
use Rattle.dis_meaning.proofs.laws.faults_change_nothing.Goals as goal

pub returns : goal.returns
returns c = proved.faults_change_nothing
