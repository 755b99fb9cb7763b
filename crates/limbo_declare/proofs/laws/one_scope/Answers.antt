use Rattle.limbo_declare.proofs.Scope.{one}
use Rattle.limbo_declare.proofs.laws.one_scope.Goals as goal

pub returns : goal.returns
returns c = one
