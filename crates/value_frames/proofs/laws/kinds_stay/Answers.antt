use Rattle.value_frames.proofs.Replacing as replacing
use Rattle.value_frames.proofs.laws.kinds_stay.Goals as goal

pub returns : goal.returns
returns c = replacing.kinds_stay
