use Rattle.limbo_includes.proofs.Flattening as flattening
use Rattle.limbo_includes.proofs.laws.whole_has_row.Goals as goal

pub returns : goal.returns
returns c = flattening.whole_has_row
