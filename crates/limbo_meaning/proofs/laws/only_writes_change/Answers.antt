use Rattle.limbo_meaning.proofs.Order.{only_writes_change}
use Rattle.limbo_meaning.proofs.laws.only_writes_change.Goals as goal

pub returns : goal.returns
returns c = only_writes_change
