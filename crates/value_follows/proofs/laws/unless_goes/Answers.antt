use Rattle.value_follows.proofs.Jumps as proved
use Rattle.value_follows.proofs.laws.unless_goes.Goals as goal

pub returns : goal.returns
returns c = proved.unless_goes
