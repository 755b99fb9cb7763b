use Rattle.limbo_values.proofs.Decimals.{read_back}
use Rattle.limbo_values.proofs.laws.reads_back.Goals as goal

pub returns : goal.returns
returns c = read_back
