use Rattle.value_follows.proofs.Comparing as proved
use Rattle.value_follows.proofs.laws.denials_go.Goals as goal

pub returns : goal.returns
returns c = proved.denials_go
