use Rattle.limbo_meaning.proofs.Opening.{opening_is_still}
use Rattle.limbo_meaning.proofs.laws.opening_is_still.Goals as goal

pub returns : goal.returns
returns c = opening_is_still
