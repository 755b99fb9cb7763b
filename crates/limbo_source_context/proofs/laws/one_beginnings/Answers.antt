use Rattle.limbo_source_context.proofs.Beginnings.{one_beginnings}
use Rattle.limbo_source_context.proofs.laws.one_beginnings.Goals as goal

pub returns : goal.returns
returns c = one_beginnings
