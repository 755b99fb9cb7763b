use Rattle.limbo_entries.proofs.Seeking.{one}
use Rattle.limbo_entries.proofs.laws.one_found.Goals as goal

pub returns : goal.returns
returns c = λ es implemented name scope j k once f g. one es implemented name scope j once f k g
