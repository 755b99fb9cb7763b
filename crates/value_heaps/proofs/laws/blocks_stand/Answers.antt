use Rattle.value_heaps.proofs.Contents.{blocks_stand}
use Rattle.value_heaps.proofs.laws.blocks_stand.Goals as goal

pub returns : goal.returns
returns c = blocks_stand
