use Rattle.limbo_meanings.proofs.Named.{names_inside}
use Rattle.limbo_meanings.proofs.laws.names_of_a_scope.Goals as goal

pub returns : goal.returns
returns c = names_inside
