use Rattle.value_follows.proofs.Kept as proved
use Rattle.value_follows.proofs.laws.stands_kept.Goals as goal

pub returns : goal.returns
returns c = proved.stands_keep
