use Rattle.part_code.proofs.Rooms.{frames_fit as proved}
use Rattle.part_code.proofs.laws.frames_fit.Goals as goal

pub returns : goal.returns
returns c = record { fits = proved }
