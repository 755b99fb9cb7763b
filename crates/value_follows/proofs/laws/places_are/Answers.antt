use Rattle.value_follows.proofs.Paces as proved
use Rattle.value_follows.proofs.laws.places_are.Goals as goal

pub returns : goal.returns
returns c = proved.places_are
