use Rattle.limbo_defining.proofs.Unique.{one}
use Rattle.limbo_defining.proofs.laws.one_definition.Goals as goal

pub returns : goal.returns
returns c = one
