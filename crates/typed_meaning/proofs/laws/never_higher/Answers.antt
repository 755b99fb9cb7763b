use Rattle.typed_meaning.proofs.Frames.{never_higher}
use Rattle.typed_meaning.proofs.laws.never_higher.Goals as goal

pub returns : goal.returns
returns c = never_higher
