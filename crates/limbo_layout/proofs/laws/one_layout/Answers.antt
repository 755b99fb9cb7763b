use Rattle.limbo_layout.proofs.Rooms.{one_room}
use Rattle.limbo_layout.proofs.laws.one_layout.Goals as goal

pub returns : goal.returns
returns c = one_room
