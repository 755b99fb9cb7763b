use Rattle.value_stores.proofs.Places as proved
use Rattle.value_stores.proofs.laws.places_change.Goals as goal

pub returns : goal.returns
returns c = proved.places_change
