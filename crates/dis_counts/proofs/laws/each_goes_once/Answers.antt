use Rattle.dis_counts.proofs.Going as proved
use Rattle.dis_counts.proofs.laws.each_goes_once.Goals as goal

pub returns : goal.returns
returns c = proved.each_goes_once
