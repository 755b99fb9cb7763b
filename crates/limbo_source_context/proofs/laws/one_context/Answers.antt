use Rattle.limbo_source_context.proofs.Contexts.{one}
use Rattle.limbo_source_context.proofs.laws.one_context.Goals as goal

pub returns : goal.returns
returns c = one
