use Rattle.heap_cuts.proofs.Anew.{anew_stays}
use Rattle.heap_cuts.proofs.laws.renewed.Goals as goal

pub returns : goal.returns
returns c before after k s f = anew_stays before after k s f
