use Rattle.value_frames.proofs.Beginning as beginning
use Rattle.value_frames.proofs.laws.frames_begin.Goals as goal

pub returns : goal.returns
returns c = beginning.frames_begin
