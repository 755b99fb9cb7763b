use Rattle.core_typing.proofs.Trees.{trees_go_well}
use Rattle.core_typing.proofs.laws.trees_go_well.Goals as goal

pub returns : goal.returns
returns c = trees_go_well
