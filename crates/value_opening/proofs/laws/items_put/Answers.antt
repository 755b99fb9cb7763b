use Rattle.value_opening.proofs.Opening as proved
use Rattle.value_opening.proofs.laws.items_put.Goals as goal

pub returns : goal.returns
returns c = proved.items_put
