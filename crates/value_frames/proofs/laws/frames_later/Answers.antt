use Rattle.value_frames.proofs.Later as later
use Rattle.value_frames.proofs.laws.frames_later.Goals as goal

pub returns : goal.returns
returns c = later.frames_later
