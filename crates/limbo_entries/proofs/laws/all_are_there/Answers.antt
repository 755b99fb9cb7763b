use Rattle.limbo_entries.proofs.Tables.{is_there}
use Rattle.limbo_entries.proofs.laws.all_are_there.Goals as goal

pub returns : goal.returns
returns c = is_there
