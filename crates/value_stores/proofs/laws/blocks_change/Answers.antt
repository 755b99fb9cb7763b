use Rattle.value_stores.proofs.Stores as proved
use Rattle.value_stores.proofs.laws.blocks_change.Goals as goal

pub returns : goal.returns
returns c = proved.blocks_change
