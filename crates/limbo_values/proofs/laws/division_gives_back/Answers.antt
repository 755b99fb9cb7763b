use Rattle.limbo_values.proofs.Quotients.{gives_back}
use Rattle.limbo_values.proofs.laws.division_gives_back.Goals as goal

pub returns : goal.returns
returns c = gives_back
