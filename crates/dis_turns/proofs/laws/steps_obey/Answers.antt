use Rattle.dis_turns.proofs.Turning.{steps_obey}
use Rattle.dis_turns.proofs.laws.steps_obey.Goals as goal

pub returns : goal.returns
returns c = steps_obey
