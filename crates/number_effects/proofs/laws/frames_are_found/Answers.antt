use Rattle.number_effects.proofs.Frames as proved
use Rattle.number_effects.proofs.laws.frames_are_found.Goals as goal

pub returns : goal.returns
returns c = proved.frames_are_found
