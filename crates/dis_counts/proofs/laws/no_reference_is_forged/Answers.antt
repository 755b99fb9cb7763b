use Rattle.dis_counts.proofs.Forging as proved
use Rattle.dis_counts.proofs.laws.no_reference_is_forged.Goals as goal

pub returns : goal.returns
returns c = proved.no_reference_is_forged
