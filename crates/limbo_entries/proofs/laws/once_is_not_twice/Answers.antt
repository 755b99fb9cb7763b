use Rattle.limbo_entries.proofs.Tables.{not_twice}
use Rattle.limbo_entries.proofs.laws.once_is_not_twice.Goals as goal

pub returns : goal.returns
returns c = not_twice
