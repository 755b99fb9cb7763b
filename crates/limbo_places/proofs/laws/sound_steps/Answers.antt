use Rattle.limbo_places.proofs.Sound.{steps_sound}
use Rattle.limbo_places.proofs.laws.sound_steps.Goals as goal

pub returns : goal.returns
returns c = steps_sound
