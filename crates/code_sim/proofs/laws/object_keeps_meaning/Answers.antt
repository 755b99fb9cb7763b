use Rattle.code_sim.proofs.Together as proved
use Rattle.code_sim.proofs.laws.object_keeps_meaning.Goals as goal

pub returns-clause-keeps : goal.returns-clause-keeps
returns-clause-keeps c = proved.keeps

pub returns-clause-journals : goal.returns-clause-journals
returns-clause-journals c = proved.journals

pub returns-clause-never_faults : goal.returns-clause-never_faults
returns-clause-never_faults c = proved.never_faults
