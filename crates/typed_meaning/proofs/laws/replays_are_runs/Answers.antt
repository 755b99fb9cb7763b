use Rattle.typed_meaning.proofs.Replays.{replays_are_runs}
use Rattle.typed_meaning.proofs.laws.replays_are_runs.Goals as goal

pub returns : goal.returns
returns c = replays_are_runs
