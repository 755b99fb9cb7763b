use Rattle.limbo_values.proofs.Quotients.{multiplies}
use Rattle.limbo_values.proofs.laws.shift_multiplies.Goals as goal

pub returns : goal.returns
returns c = multiplies
