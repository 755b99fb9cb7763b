use Rattle.limbo_outline.proofs.Numbers.{constant_of}
use Rattle.limbo_outline.proofs.laws.constant_of_a_number.Goals as goal

pub returns : goal.returns
returns c = constant_of
