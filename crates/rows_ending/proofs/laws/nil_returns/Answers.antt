use Rattle.rows_ending.proofs.Nils as proved
use Rattle.rows_ending.proofs.laws.nil_returns.Goals as goal

pub returns : goal.returns
returns c = proved.nil_returns
