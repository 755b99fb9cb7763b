use Rattle.value_follows.proofs.References as proved
use Rattle.value_follows.proofs.laws.known_goes.Goals as goal

pub returns : goal.returns
returns c = proved.known_goes
