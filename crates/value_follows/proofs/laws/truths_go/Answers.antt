use Rattle.value_follows.proofs.Truths as proved
use Rattle.value_follows.proofs.laws.truths_go.Goals as goal

pub returns : goal.returns
returns c = proved.truths_go
