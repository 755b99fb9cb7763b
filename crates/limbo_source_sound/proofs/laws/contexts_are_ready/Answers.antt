use Rattle.limbo_source_sound.proofs.Ready.{are_ready}
use Rattle.limbo_source_sound.proofs.laws.contexts_are_ready.Goals as goal

pub returns : goal.returns
returns c = are_ready
