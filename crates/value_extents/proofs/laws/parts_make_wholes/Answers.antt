use Rattle.value_extents.proofs.Wholes.{parts_make_wholes}
use Rattle.value_extents.proofs.laws.parts_make_wholes.Goals as goal

pub returns : goal.returns
returns c = parts_make_wholes
