use Rattle.limbo_kept.proofs.Evaluating.{trees_keep_types}
use Rattle.limbo_kept.proofs.laws.trees_keep_types.Goals as goal

pub returns : goal.returns
returns c = trees_keep_types
