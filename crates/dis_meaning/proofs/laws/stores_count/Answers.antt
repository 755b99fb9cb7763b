use Rattle.dis_meaning.proofs.Counts as proved
use Rattle.dis_meaning.proofs.laws.stores_count.Goals as goal

pub returns : goal.returns
returns c = proved.stores_count
