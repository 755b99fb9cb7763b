use Rattle.limbo_naming.proofs.Direct as direct
use Rattle.limbo_naming.proofs.laws.lacks_or_declares.Goals as goal

pub returns : goal.returns
returns c = λ es m scope q k once. direct.lacks_declared es m scope once q k
