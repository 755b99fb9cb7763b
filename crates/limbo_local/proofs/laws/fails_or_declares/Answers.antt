use Rattle.limbo_local.proofs.Failing.{not_declared}
use Rattle.limbo_local.proofs.laws.fails_or_declares.Goals as goal

pub returns : goal.returns
returns c = λ m d p q k x f h. not_declared c.one_typed.ensures.value c.fails_or_types.ensures.value m d p k f q x h
