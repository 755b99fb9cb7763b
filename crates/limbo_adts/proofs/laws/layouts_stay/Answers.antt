use Rattle.limbo_adts.proofs.Staying.{layout_stays}
use Rattle.limbo_adts.proofs.laws.layouts_stay.Goals as goal

pub returns : goal.returns
returns c = layout_stays
