use Rattle.limbo_outline.proofs.Numbers.{type_of}
use Rattle.limbo_outline.proofs.laws.type_of_a_number.Goals as goal

pub returns : goal.returns
returns c = type_of
