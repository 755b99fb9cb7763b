use Rattle.limbo_meanings.proofs.Named.{names_outermost}
use Rattle.limbo_meanings.proofs.laws.names_of_the_top_level.Goals as goal

pub returns : goal.returns
returns c = names_outermost
