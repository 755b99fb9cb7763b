use Rattle.core_frames.proofs.Fit.{slots_fit}
use Rattle.core_frames.proofs.laws.slots_fit.Goals as goal

pub returns : goal.returns
returns c = slots_fit
