use Rattle.limbo_outline.proofs.Numbers.{exception_of}
use Rattle.limbo_outline.proofs.laws.exception_of_a_number.Goals as goal

pub returns : goal.returns
returns c = exception_of
