use Rattle.dis_meaning.proofs.Faults as proved
use Rattle.dis_meaning.proofs.laws.breaks_change_nothing.Goals as goal

pub returns : goal.returns
returns c = proved.breaks_change_nothing
