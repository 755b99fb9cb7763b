use Rattle.dis_agreement.proofs.Openings as proved
use Rattle.dis_agreement.proofs.laws.openings_agree.Goals as goal

pub returns : goal.returns
returns c = proved.openings_agree
