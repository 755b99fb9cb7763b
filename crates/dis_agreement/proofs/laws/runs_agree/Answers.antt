use Rattle.dis_agreement.proofs.Runs as proved
use Rattle.dis_agreement.proofs.laws.runs_agree.Goals as goal

pub returns : goal.returns
returns c = proved.runs_agree
