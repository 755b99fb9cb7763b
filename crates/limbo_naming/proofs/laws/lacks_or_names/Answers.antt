use Rattle.limbo_naming.proofs.Unique as unique
use Rattle.limbo_naming.proofs.laws.lacks_or_names.Goals as goal

pub returns : goal.returns
returns c = λ es m scope q r once. unique.lacks_none es m once scope q r
