use Rattle.limbo_fields.proofs.Named.{one}
use Rattle.limbo_fields.proofs.laws.one_part.Goals as goal

pub returns : goal.returns
returns c = one
