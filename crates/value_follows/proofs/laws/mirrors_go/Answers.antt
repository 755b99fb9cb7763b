use Rattle.value_follows.proofs.Jumps as proved
use Rattle.value_follows.proofs.laws.mirrors_go.Goals as goal

pub returns : goal.returns
returns c = proved.mirrors_go
