use Rattle.limbo_outline.proofs.Numbers.{modules_by}
use Rattle.limbo_outline.proofs.laws.modules_by_number.Goals as goal

pub returns : goal.returns
returns c = modules_by
