use Rattle.dis_format.proofs.Shortest.{valid, written_so, whole, misfit}
use Rattle.dis_format.proofs.laws.writes_exactly.Goals as goal

pub returns-clause-valid : goal.returns-clause-valid
returns-clause-valid c = valid

pub returns-clause-written : goal.returns-clause-written
returns-clause-written c = written_so

pub returns-clause-whole : goal.returns-clause-whole
returns-clause-whole c = whole

pub returns-clause-misfit : goal.returns-clause-misfit
returns-clause-misfit c = misfit
