use Rattle.limbo_includes.proofs.Flattening as flattening
use Rattle.limbo_includes.proofs.laws.one_row.Goals as goal

pub returns : goal.returns
returns c = flattening.one_row
