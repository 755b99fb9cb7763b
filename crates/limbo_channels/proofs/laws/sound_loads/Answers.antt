use Rattle.limbo_channels.proofs.Sound.{loads_sound}
use Rattle.limbo_channels.proofs.laws.sound_loads.Goals as goal

pub returns : goal.returns
returns c = loads_sound
