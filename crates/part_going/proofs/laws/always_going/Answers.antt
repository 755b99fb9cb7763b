use Rattle.part_going.proofs.Going.{always_going}
use Rattle.part_going.proofs.laws.always_going.Goals as goal

pub returns : goal.returns
returns c = always_going
