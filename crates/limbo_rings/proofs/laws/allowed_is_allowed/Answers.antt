use Rattle.limbo_rings.proofs.Permitting.{allowed_is_allowed}
use Rattle.limbo_rings.proofs.laws.allowed_is_allowed.Goals as goal

pub returns : goal.returns
returns c = allowed_is_allowed
