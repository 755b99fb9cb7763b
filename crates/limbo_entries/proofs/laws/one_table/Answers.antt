use Rattle.limbo_entries.proofs.Tables.{one}
use Rattle.limbo_entries.proofs.laws.one_table.Goals as goal

pub returns : goal.returns
returns c = one
