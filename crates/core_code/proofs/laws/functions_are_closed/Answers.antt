use Rattle.core_code.proofs.Closed.{functions_are_closed}
use Rattle.core_code.proofs.laws.functions_are_closed.Goals as goal

pub returns : goal.returns
returns c = functions_are_closed
