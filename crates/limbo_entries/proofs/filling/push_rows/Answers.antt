use Rattle.limbo_entries.proofs.Repeated.{again_in}
use Rattle.limbo_entries.proofs.filling.push_rows.Goals as goal

pub returns-in-Err-clause-again : goal.returns-in-Err-clause-again
returns-in-Err-clause-again c = λ r e. again_in c.args.rows.items r (c.in-Err.ensures.again r e)
