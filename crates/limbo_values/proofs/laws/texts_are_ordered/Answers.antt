use Rattle.limbo_values.proofs.Ordered.{texts_are_ordered}
use Rattle.limbo_values.proofs.laws.texts_are_ordered.Goals as goal

pub returns : goal.returns
returns c = texts_are_ordered
