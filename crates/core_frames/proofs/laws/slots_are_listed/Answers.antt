use Rattle.core_frames.proofs.Listed.{slots_are_listed}
use Rattle.core_frames.proofs.laws.slots_are_listed.Goals as goal

pub returns : goal.returns
returns c = slots_are_listed
