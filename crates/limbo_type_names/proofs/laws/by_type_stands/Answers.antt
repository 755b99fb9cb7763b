use Rattle.limbo_type_names.proofs.Unique as unique
use Rattle.limbo_type_names.proofs.laws.by_type_stands.Goals as goal

pub returns : goal.returns
returns c = λ es m types k e t. unique.by_type_stands es m types k e t
