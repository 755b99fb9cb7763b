use Rattle.value_follows.proofs.Shifting as proved
use Rattle.value_follows.proofs.laws.shifts_go.Goals as goal

pub returns : goal.returns
returns c = proved.shifts_go
