use Rattle.value_frames.proofs.Rest as rest
use Rattle.value_frames.proofs.laws.slots_rest.Goals as goal

pub returns : goal.returns
returns c = rest.slots_rest
