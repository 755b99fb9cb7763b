use Rattle.value_heaps.proofs.Contents as contents
use Rattle.value_heaps.proofs.laws.contents_are.Goals as goal

pub returns : goal.returns
returns c = contents.contents_are
