use Rattle.typed_meaning.proofs.Frames.{heights}
use Rattle.typed_meaning.proofs.laws.heights.Goals as goal

pub returns : goal.returns
returns c = heights
