use Rattle.limbo_kept.proofs.Processes.{types_are_kept}
use Rattle.limbo_kept.proofs.laws.types_are_kept.Goals as goal

pub returns : goal.returns
returns c = types_are_kept
