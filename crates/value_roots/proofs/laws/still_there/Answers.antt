use Rattle.value_roots.proofs.Still as proved
use Rattle.value_roots.proofs.laws.still_there.Goals as goal

pub returns : goal.returns
returns c = proved.still_there
