use Rattle.value_roots.proofs.Left as proved
use Rattle.value_roots.proofs.laws.left_accounted.Goals as goal

pub returns : goal.returns
returns g c = proved.left_accounted g.S.BesideBlocks.contents
