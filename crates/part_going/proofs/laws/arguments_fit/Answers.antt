use Rattle.part_going.proofs.Going.{arguments_fit}
use Rattle.part_going.proofs.laws.arguments_fit.Goals as goal

pub returns : goal.returns
returns c = arguments_fit
