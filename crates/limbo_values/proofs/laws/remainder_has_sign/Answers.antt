use Rattle.limbo_values.proofs.Quotients.{has_sign}
use Rattle.limbo_values.proofs.laws.remainder_has_sign.Goals as goal

pub returns : goal.returns
returns c = has_sign
