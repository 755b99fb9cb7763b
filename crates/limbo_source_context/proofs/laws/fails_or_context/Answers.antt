use Rattle.limbo_source_context.proofs.Failing.{fails_or_context}
use Rattle.limbo_source_context.proofs.laws.fails_or_context.Goals as goal

pub returns : goal.returns
returns c = fails_or_context
