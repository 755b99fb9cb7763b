use Rattle.dis_turns.proofs.Replying.{replies_obey}
use Rattle.dis_turns.proofs.laws.replies_obey.Goals as goal

pub returns : goal.returns
returns c = replies_obey
