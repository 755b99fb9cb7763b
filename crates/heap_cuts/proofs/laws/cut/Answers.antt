use Rattle.heap_cuts.proofs.Cuts.{cut_held, cut_stays}
use Rattle.heap_cuts.proofs.laws.cut.Goals as goal

pub returns-clause-stays : goal.returns-clause-stays
returns-clause-stays c before after given away = cut_stays before after given away

pub returns-clause-held : goal.returns-clause-held
returns-clause-held c before after given away n = cut_held before after given away n
