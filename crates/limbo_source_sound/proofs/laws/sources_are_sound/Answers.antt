use Rattle.limbo_source_sound.proofs.Ready.{sources_sound}
use Rattle.limbo_source_sound.proofs.laws.sources_are_sound.Goals as goal

pub returns : goal.returns
returns c = sources_sound
