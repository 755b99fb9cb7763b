use Rattle.number_effects.proofs.Stepping as proved
use Rattle.number_effects.proofs.laws.steps_obey.Goals as goal

pub returns : goal.returns
returns c = proved.steps_obey
