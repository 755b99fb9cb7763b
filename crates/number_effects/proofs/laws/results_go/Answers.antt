use Rattle.number_effects.proofs.Giving as proved
use Rattle.number_effects.proofs.laws.results_go.Goals as goal

pub returns : goal.returns
returns c = proved.results_go
