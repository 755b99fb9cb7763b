use Rattle.limbo_places.proofs.Sound.{indexes_sound, slices_sound}
use Rattle.limbo_places.proofs.laws.sound_elements.Goals as goal

pub returns : goal.returns
returns c = record { indexes = indexes_sound; slices = slices_sound }
