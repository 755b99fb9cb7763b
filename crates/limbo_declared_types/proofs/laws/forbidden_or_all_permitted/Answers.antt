use Rattle.limbo_declared_types.proofs.Telling.{forbidden}
use Rattle.limbo_declared_types.proofs.laws.forbidden_or_all_permitted.Goals as goal

pub returns : goal.returns
returns c = λ es m k r. forbidden es m k r
