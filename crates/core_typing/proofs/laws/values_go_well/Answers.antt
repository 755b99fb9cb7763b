use Rattle.core_typing.proofs.Trees.{values_go_well}
use Rattle.core_typing.proofs.laws.values_go_well.Goals as goal

pub returns : goal.returns
returns c = values_go_well
