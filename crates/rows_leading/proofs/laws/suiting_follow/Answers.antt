use Rattle.rows_leading.proofs.Leading.{suiting_follow}
use Rattle.rows_leading.proofs.laws.suiting_follow.Goals as goal

pub returns : goal.returns
returns c = suiting_follow
