use Rattle.limbo_values.proofs.Quotients.{reduced}
use Rattle.limbo_values.proofs.laws.counts_are_reduced.Goals as goal

pub returns : goal.returns
returns c = reduced
