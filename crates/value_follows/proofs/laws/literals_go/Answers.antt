use Rattle.value_follows.proofs.Literals as proved
use Rattle.value_follows.proofs.laws.literals_go.Goals as goal

pub returns : goal.returns
returns c = proved.literals_go
