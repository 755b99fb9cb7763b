use Rattle.value_rooms.proofs.Inside.{names_lie_inside}
use Rattle.value_rooms.proofs.laws.names_lie_inside.Goals as goal

pub returns : goal.returns
returns c = names_lie_inside
