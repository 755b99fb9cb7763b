use Rattle.dis_agreement.proofs.Openings as proved
use Rattle.dis_agreement.proofs.laws.programs_run_alike.Goals as goal

pub returns : goal.returns
returns c = proved.programs_run_alike
