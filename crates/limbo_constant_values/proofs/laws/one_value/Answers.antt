use Rattle.limbo_constant_values.proofs.Meanings as meanings
use Rattle.limbo_constant_values.proofs.laws.one_value.Goals as goal

pub returns : goal.returns
returns c = λ es m k c d once. meanings.one_value es m once k c d
