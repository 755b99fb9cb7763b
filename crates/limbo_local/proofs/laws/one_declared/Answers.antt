use Rattle.limbo_local.proofs.Once.{one_declared}
use Rattle.limbo_local.proofs.laws.one_declared.Goals as goal

pub returns : goal.returns
returns c = λ m d p q r x y h k. one_declared c.one_typed.ensures.value c.settled_values.ensures.once m d p q r x y h k
