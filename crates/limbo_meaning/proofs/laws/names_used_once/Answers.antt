use Rattle.limbo_meaning.proofs.Naming.{names_used_once}
use Rattle.limbo_meaning.proofs.laws.names_used_once.Goals as goal

pub returns : goal.returns
returns c = names_used_once
