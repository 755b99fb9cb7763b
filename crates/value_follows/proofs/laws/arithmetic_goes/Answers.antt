use Rattle.value_follows.proofs.Arithmetic as proved
use Rattle.value_follows.proofs.laws.arithmetic_goes.Goals as goal

pub returns : goal.returns
returns c = proved.arithmetic_goes
