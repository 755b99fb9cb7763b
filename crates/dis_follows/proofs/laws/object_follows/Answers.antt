use Rattle.dis_follows.proofs.Kept as kept
use Rattle.dis_follows.proofs.Opens as opening
use Rattle.dis_follows.proofs.Under as under
use Rattle.dis_follows.proofs.laws.object_follows.Goals as goal

pub returns-clause-keeps : goal.returns-clause-keeps
returns-clause-keeps c = kept.keeps

pub returns-clause-tells : goal.returns-clause-tells
returns-clause-tells c = λ m proper k p r h. under.tells m proper k p r h

pub returns-clause-never_faults : goal.returns-clause-never_faults
returns-clause-never_faults c = kept.never_faults

pub returns-clause-opens : goal.returns-clause-opens
returns-clause-opens c = opening.opens
