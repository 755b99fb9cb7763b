use Rattle.dis_counts.proofs.Going as proved
use Rattle.dis_counts.proofs.laws.last_references_release.Goals as goal

pub returns : goal.returns
returns c = proved.last_references_release
