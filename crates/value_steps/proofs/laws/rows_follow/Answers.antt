use Rattle.value_steps.proofs.Steps.{rows_follow}
use Rattle.value_steps.proofs.laws.rows_follow.Goals as goal

pub returns : goal.returns
returns c = rows_follow
