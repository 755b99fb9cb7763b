use Rattle.core_code.proofs.Rounds.{rounds_give_rooms}
use Rattle.core_code.proofs.laws.rounds_give_rooms.Goals as goal

pub returns : goal.returns
returns c = rounds_give_rooms
