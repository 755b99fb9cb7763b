use Rattle.limbo_scope.proofs.Maps.{inserted}
use Rattle.limbo_scope.proofs.scopes.insert.Goals as goal

pub returns-clause-declared : goal.returns-clause-declared
returns-clause-declared c = inserted c.args.scope.now c.insert.new.self c.args.name c.args.meaning c.in_ok-insert.ensures.updates
