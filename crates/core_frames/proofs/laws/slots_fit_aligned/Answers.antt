use Rattle.core_frames.proofs.Fit.{slots_fit_aligned}
use Rattle.core_frames.proofs.laws.slots_fit_aligned.Goals as goal

pub returns : goal.returns
returns c = slots_fit_aligned
