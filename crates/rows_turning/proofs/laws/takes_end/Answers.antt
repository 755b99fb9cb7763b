use Rattle.rows_turning.proofs.Ends as proved
use Rattle.rows_turning.proofs.laws.takes_end.Goals as goal

pub returns : goal.returns
returns c = proved.takes_end
