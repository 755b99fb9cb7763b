use Rattle.dis_agreement.proofs.Runs as proved
use Rattle.dis_agreement.proofs.laws.turns_agree.Goals as goal

pub returns : goal.returns
returns c = proved.turns_agree
