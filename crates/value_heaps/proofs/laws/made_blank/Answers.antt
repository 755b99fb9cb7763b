use Rattle.value_heaps.proofs.Made.{made}
use Rattle.value_heaps.proofs.laws.made_blank.Goals as goal

pub returns : goal.returns
returns c = made
