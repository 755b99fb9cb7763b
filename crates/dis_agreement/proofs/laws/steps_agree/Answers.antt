use Rattle.dis_agreement.proofs.Steps as proved
use Rattle.dis_agreement.proofs.laws.steps_agree.Goals as goal

pub returns : goal.returns
returns c = proved.steps_agree
