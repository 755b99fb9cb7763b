use Rattle.part_going.proofs.Going.{operands_fit}
use Rattle.part_going.proofs.laws.operands_fit.Goals as goal

pub returns : goal.returns
returns c = operands_fit
