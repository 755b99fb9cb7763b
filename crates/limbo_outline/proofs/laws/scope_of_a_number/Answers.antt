use Rattle.limbo_outline.proofs.Numbers.{scope_of}
use Rattle.limbo_outline.proofs.laws.scope_of_a_number.Goals as goal

pub returns : goal.returns
returns c = scope_of
