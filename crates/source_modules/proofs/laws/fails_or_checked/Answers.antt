use Rattle.source_modules.proofs.Refused.{fails_or_checked}
use Rattle.source_modules.proofs.laws.fails_or_checked.Goals as goal

pub returns : goal.returns
returns c = fails_or_checked c.fails_or_module.ensures c.refused_declares_nothing.ensures
