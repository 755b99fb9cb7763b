use Rattle.limbo_kept.proofs.Placing.{places_keep_types}
use Rattle.limbo_kept.proofs.laws.places_keep_types.Goals as goal

pub returns : goal.returns
returns c = places_keep_types
