use Rattle.limbo_outline.proofs.Numbers.{adts_by}
use Rattle.limbo_outline.proofs.laws.adts_by_number.Goals as goal

pub returns : goal.returns
returns c = adts_by
