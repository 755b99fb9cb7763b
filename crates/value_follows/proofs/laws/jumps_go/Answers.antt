use Rattle.value_follows.proofs.Jumps as proved
use Rattle.value_follows.proofs.laws.jumps_go.Goals as goal

pub returns : goal.returns
returns c = proved.jumps_go
