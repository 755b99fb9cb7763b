use Rattle.value_moves.proofs.Leading as proved
use Rattle.value_moves.proofs.laws.spots_lead.Goals as goal

pub returns : goal.returns
returns c = proved.spots_lead
