use Rattle.limbo_paths.proofs.Ways.{leave_all}
use Rattle.limbo_paths.proofs.laws.runs_are_ways.Goals as goal

pub returns : goal.returns
returns c = leave_all
