use Rattle.typed_meaning.proofs.Lows.{runs_stay_low}
use Rattle.typed_meaning.proofs.laws.runs_stay_low.Goals as goal

pub returns : goal.returns
returns c = runs_stay_low
