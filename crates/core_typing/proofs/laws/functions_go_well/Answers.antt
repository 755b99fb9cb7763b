use Rattle.core_typing.proofs.Trees.{trees_go_well, values_go_well}
use Rattle.core_typing.proofs.Functions.{functions_go_well}
use Rattle.core_typing.proofs.laws.functions_go_well.Goals as goal

pub returns : goal.returns
returns c = functions_go_well trees_go_well values_go_well
