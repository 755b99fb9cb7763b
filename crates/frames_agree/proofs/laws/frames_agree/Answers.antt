use Rattle.frames_agree.proofs.Agree.{frames_agree as proved}
use Rattle.frames_agree.proofs.laws.frames_agree.Goals as goal

pub returns : goal.returns
returns c = proved
