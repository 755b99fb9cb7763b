use Rattle.limbo_naming.proofs.Unique as unique
use Rattle.limbo_naming.proofs.laws.one_named.Goals as goal

pub returns : goal.returns
returns c = λ es m scope q r s once. unique.one_named es m once scope q r s
