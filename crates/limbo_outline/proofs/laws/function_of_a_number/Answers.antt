use Rattle.limbo_outline.proofs.Numbers.{function_of}
use Rattle.limbo_outline.proofs.laws.function_of_a_number.Goals as goal

pub returns : goal.returns
returns c = function_of
