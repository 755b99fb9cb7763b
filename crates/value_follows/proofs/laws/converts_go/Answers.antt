use Rattle.value_follows.proofs.Converting as proved
use Rattle.value_follows.proofs.laws.converts_go.Goals as goal

pub returns : goal.returns
returns c = proved.converts_go
