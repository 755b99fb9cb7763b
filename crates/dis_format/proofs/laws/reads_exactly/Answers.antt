use Rattle.dis_format.proofs.Whole.{found, only}
use Rattle.dis_format.proofs.laws.reads_exactly.Goals as goal

pub returns-clause-found : goal.returns-clause-found
returns-clause-found c = found

pub returns-clause-only : goal.returns-clause-only
returns-clause-only c = only
