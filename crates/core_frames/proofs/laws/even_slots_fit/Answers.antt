use Rattle.core_frames.proofs.Even.{even_slots_fit}
use Rattle.core_frames.proofs.laws.even_slots_fit.Goals as goal

pub returns : goal.returns
returns c = even_slots_fit
