use Rattle.value_follows.proofs.Comparing as proved
use Rattle.value_follows.proofs.laws.compares_go.Goals as goal

pub returns : goal.returns
returns c = proved.compares_go
