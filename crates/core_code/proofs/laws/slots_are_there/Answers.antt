use Rattle.core_code.proofs.Used.{slots_are_there}
use Rattle.core_code.proofs.laws.slots_are_there.Goals as goal

pub returns : goal.returns
returns c = slots_are_there
