use Rattle.core_code.proofs.Whole.{values_are_whole}
use Rattle.core_code.proofs.laws.values_are_whole.Goals as goal

pub returns : goal.returns
returns c = values_are_whole
