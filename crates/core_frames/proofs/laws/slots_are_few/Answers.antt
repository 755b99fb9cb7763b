use Rattle.core_frames.proofs.Nodes.{slots_are_few}
use Rattle.core_frames.proofs.laws.slots_are_few.Goals as goal

pub returns : goal.returns
returns c = slots_are_few
