use Rattle.limbo_source_sound.proofs.Named.{named_throughout}
use Rattle.limbo_source_sound.proofs.laws.lists_are_named.Goals as goal

pub returns : goal.returns
returns c = λ top es m name k table is. named_throughout top es m name k table is
