use Rattle.limbo_filling.proofs.Trees.{fills_stay_apart}
use Rattle.limbo_filling.proofs.laws.fills_stay_apart.Goals as goal

pub returns : goal.returns
returns c = fills_stay_apart
