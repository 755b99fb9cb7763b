use Rattle.limbo_outline.proofs.Numbers.{global_of}
use Rattle.limbo_outline.proofs.laws.global_of_a_number.Goals as goal

pub returns : goal.returns
returns c = global_of
