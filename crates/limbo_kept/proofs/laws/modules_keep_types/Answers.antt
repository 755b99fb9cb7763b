use Rattle.limbo_kept.proofs.Opening.{modules_keep_types}
use Rattle.limbo_kept.proofs.laws.modules_keep_types.Goals as goal

pub returns : goal.returns
returns c = modules_keep_types
