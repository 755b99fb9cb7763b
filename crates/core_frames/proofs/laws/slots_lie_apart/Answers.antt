use Rattle.core_frames.proofs.Places.{slots_lie_apart}
use Rattle.core_frames.proofs.laws.slots_lie_apart.Goals as goal

pub returns : goal.returns
returns c = slots_lie_apart
