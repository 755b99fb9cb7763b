use Rattle.dis_agreement.proofs.Returning as proved
use Rattle.dis_agreement.proofs.laws.runs_return.Goals as goal

pub returns : goal.returns
returns c = proved.runs_return
