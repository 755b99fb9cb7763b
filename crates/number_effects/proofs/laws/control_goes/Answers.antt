use Rattle.number_effects.proofs.Control as proved
use Rattle.number_effects.proofs.laws.control_goes.Goals as goal

pub returns : goal.returns
returns c = proved.control_goes
