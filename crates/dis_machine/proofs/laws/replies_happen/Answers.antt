use Rattle.dis_machine.proofs.Taking as proved
use Rattle.dis_machine.proofs.laws.replies_happen.Goals as goal

pub returns : goal.returns
returns c = proved.replies_happen
