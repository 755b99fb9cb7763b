use Rattle.core_follows.proofs.Modules.{modules_keep}
use Rattle.core_follows.proofs.laws.checked_modules_keep.Goals as goal

pub returns : goal.returns
returns c = modules_keep
