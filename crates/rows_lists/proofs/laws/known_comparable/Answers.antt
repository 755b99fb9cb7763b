use Rattle.rows_lists.proofs.Identical as proved
use Rattle.rows_lists.proofs.laws.known_comparable.Goals as goal

pub returns : goal.returns
returns c = proved.known_comparable
