use Rattle.value_opening.proofs.Putting as proved
use Rattle.value_opening.proofs.laws.puts_change.Goals as goal

pub returns : goal.returns
returns c = proved.puts_change
