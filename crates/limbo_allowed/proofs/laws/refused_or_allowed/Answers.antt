use Rattle.limbo_allowed.proofs.Decided.{refused_not_allowed}
use Rattle.limbo_allowed.proofs.laws.refused_or_allowed.Goals as goal

pub returns : goal.returns
returns c = refused_not_allowed
