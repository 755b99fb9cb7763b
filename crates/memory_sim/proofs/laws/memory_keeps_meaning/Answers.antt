use Rattle.memory_sim.proofs.Keeping as proved
use Rattle.memory_sim.proofs.laws.memory_keeps_meaning.Goals as goal

pub returns : goal.returns
returns c = proved.memory_keeps_meaning
