use Rattle.limbo_kept.proofs.Operating.{operations_keep_types}
use Rattle.limbo_kept.proofs.laws.operations_keep_types.Goals as goal

pub returns : goal.returns
returns c = operations_keep_types
