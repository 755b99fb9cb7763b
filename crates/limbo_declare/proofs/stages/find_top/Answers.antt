use Rattle.limbo_declare.specs.Declares.{at_top}
use Rattle.limbo_declare.proofs.stages.find_top.Goals as goal

pub returns-in-Err-Twice-clause-fails : goal.returns-in-Err-Twice-clause-fails
returns-in-Err-Twice-clause-fails c = at_top (c.in-Err-Twice.ensures.twice c.in-Err-Twice.path c.in-Err-Twice.at c.in-Err-Twice.field-0-is)

pub returns-in-Err-Unknown-clause-fails : goal.returns-in-Err-Unknown-clause-fails
returns-in-Err-Unknown-clause-fails c = c.in-Err-Unknown.ensures.unknown c.in-Err-Unknown.field-0-is
