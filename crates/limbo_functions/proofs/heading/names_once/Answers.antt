use Rattle.std.proofs.Common.{refl}
use Rattle.limbo_functions.proofs.heading.names_once.Goals as goal

pub returns-in-Err-Twice-clause-refused : goal.returns-in-Err-Twice-clause-refused
returns-in-Err-Twice-clause-refused c = (refl, c.in-Err-Twice.ensures.twice c.in-Err-Twice.at c.in-Err-Twice.field-0-is)
