use Rattle.value_stores.proofs.Parts as proved
use Rattle.value_stores.proofs.laws.parts_lie.Goals as goal

pub returns : goal.returns
returns c = proved.parts_lie
