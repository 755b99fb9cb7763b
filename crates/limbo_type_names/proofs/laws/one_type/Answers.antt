use Rattle.limbo_type_names.proofs.Unique as unique
use Rattle.limbo_type_names.proofs.laws.one_type.Goals as goal

pub returns : goal.returns
returns c = λ es m scope t u v once. unique.one_type es m once scope t u v
