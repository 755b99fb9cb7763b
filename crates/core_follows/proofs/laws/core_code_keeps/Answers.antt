use Rattle.core_follows.proofs.Follows.{code_keeps}
use Rattle.core_follows.proofs.laws.core_code_keeps.Goals as goal

pub returns : goal.returns
returns c = code_keeps
