use Rattle.limbo_values.proofs.Quotients.{keeps}
use Rattle.limbo_values.proofs.laws.conversions_keep.Goals as goal

pub returns : goal.returns
returns c = keeps
