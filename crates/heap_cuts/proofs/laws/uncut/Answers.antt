use Rattle.heap_cuts.proofs.Cuts.{uncut_stays}
use Rattle.heap_cuts.proofs.laws.uncut.Goals as goal

pub returns : goal.returns
returns c h ok = uncut_stays h ok
