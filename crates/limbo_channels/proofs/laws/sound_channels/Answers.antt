use Rattle.limbo_channels.proofs.Sound.{receives_sound, sends_sound}
use Rattle.limbo_channels.proofs.laws.sound_channels.Goals as goal

pub returns : goal.returns
returns c = record { receives = receives_sound; sends = sends_sound }
