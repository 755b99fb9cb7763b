use Rattle.source_modules.proofs.Single.{one_checked}
use Rattle.source_modules.proofs.laws.one_checked.Goals as goal

pub returns : goal.returns
returns c = one_checked c.one_module.ensures
