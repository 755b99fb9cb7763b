use Rattle.limbo_places.proofs.Slices.{sliced_once}
use Rattle.limbo_places.proofs.laws.one_slice.Goals as goal

pub returns : goal.returns
returns c = sliced_once
