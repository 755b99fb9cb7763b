use Rattle.std.proofs.Common.{refl}
use Rattle.dis_filling.proofs.filled.Filled.opening.Goals as goal

pub returns : goal.returns
returns c = rw (c.new.ensures.items, c.new-2.ensures.items) refl
