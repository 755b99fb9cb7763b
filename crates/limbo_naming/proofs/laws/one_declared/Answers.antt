use Rattle.limbo_naming.proofs.Direct as direct
use Rattle.limbo_naming.proofs.laws.one_declared.Goals as goal

pub returns : goal.returns
returns c = λ es m scope q j k once. direct.one_declared es m scope once q j k
