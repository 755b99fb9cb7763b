use Rattle.core_code.proofs.Stepping.{code_is_not_left}
use Rattle.core_code.proofs.laws.code_is_not_left.Goals as goal

pub returns : goal.returns
returns c = code_is_not_left
