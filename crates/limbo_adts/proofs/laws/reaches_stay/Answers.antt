use Rattle.limbo_adts.proofs.Staying.{reach_both}
use Rattle.limbo_adts.proofs.laws.reaches_stay.Goals as goal

pub returns : goal.returns
returns c = reach_both
