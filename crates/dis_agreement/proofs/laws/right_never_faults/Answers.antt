use Rattle.dis_agreement.proofs.Faultless as proved
use Rattle.dis_agreement.proofs.laws.right_never_faults.Goals as goal

pub returns : goal.returns
returns c = proved.right_never_faults
