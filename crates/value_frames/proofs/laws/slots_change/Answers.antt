use Rattle.value_frames.proofs.Slots as slots
use Rattle.value_frames.proofs.laws.slots_change.Goals as goal

pub returns : goal.returns
returns c = slots.slots_change
