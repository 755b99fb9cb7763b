use Rattle.limbo_meaning.proofs.Statics.{kinds_are_static}
use Rattle.limbo_meaning.proofs.laws.kinds_are_static.Goals as goal

pub returns : goal.returns
returns c = kinds_are_static
