use Rattle.core_typing.proofs.Trees.{trees_go_well, values_go_well}
use Rattle.core_typing.proofs.Modules.{sound_modules_go_well}
use Rattle.core_typing.proofs.laws.sound_modules_go_well.Goals as goal

pub returns : goal.returns
returns c = sound_modules_go_well trees_go_well values_go_well
