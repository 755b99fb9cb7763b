use Rattle.limbo_declare.proofs.Scope.{nothing}
use Rattle.limbo_declare.proofs.laws.refused_declares_nothing.Goals as goal

pub returns : goal.returns
returns c = nothing
