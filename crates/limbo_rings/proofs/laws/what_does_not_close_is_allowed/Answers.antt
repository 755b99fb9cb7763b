use Rattle.limbo_rings.proofs.Permitting.{what_does_not_close_is_allowed}
use Rattle.limbo_rings.proofs.laws.what_does_not_close_is_allowed.Goals as goal

pub returns : goal.returns
returns c = what_does_not_close_is_allowed
