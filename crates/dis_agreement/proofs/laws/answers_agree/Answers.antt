use Rattle.dis_agreement.proofs.Answers as proved
use Rattle.dis_agreement.proofs.laws.answers_agree.Goals as goal

pub returns : goal.returns
returns c = proved.answers_agree
