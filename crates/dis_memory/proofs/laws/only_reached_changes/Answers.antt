use Rattle.dis_memory.proofs.Fair as proved
use Rattle.dis_memory.proofs.laws.only_reached_changes.Goals as goal

pub returns : goal.returns
returns c = proved.only_reached_changes
