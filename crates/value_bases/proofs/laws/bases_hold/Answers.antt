use Rattle.value_bases.proofs.Bases as proved
use Rattle.value_bases.proofs.laws.bases_hold.Goals as goal

pub returns : goal.returns
returns c = proved.bases_hold
