use Rattle.limbo_defined.proofs.Holding.{first_holds}
use Rattle.limbo_defined.proofs.Placing.{first_among}
use Rattle.limbo_defined.proofs.inner.first.Goals as goal

pub returns-clause-some : goal.returns-clause-some
returns-clause-some c = first_holds c.args.names.now c.first.result c.first.ensures.value

pub returns-clause-among : goal.returns-clause-among
returns-clause-among c = first_among c.args.names.now c.first.result c.first.ensures.value
