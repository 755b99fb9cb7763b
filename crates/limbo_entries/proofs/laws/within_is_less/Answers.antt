use Rattle.limbo_entries.proofs.Tables.{within_less}
use Rattle.limbo_entries.proofs.laws.within_is_less.Goals as goal

pub returns : goal.returns
returns c = λ top es j k e t i w. within_less top es k e (t.only k e i) j w
