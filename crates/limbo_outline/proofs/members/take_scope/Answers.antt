use Rattle.limbo_outline.proofs.Scoping.{set_other}
use Rattle.limbo_outline.proofs.members.take_scope.Goals as goal

pub returns-clause-kept : goal.returns-clause-kept
returns-clause-kept c = λ a n. set_other c.args.rows.now.items c.args.number _ a n
