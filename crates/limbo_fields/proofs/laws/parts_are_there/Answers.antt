use Rattle.limbo_fields.proofs.Named.{there}
use Rattle.limbo_fields.proofs.laws.parts_are_there.Goals as goal

pub returns : goal.returns
returns c = there
