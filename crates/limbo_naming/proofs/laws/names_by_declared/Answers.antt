use Rattle.limbo_naming.proofs.Direct as direct
use Rattle.limbo_naming.proofs.laws.names_by_declared.Goals as goal

pub returns : goal.returns
returns c = λ es m scope q r. (direct.by_declared es m scope q r, λ d. direct.from_declared es m scope q d.0 r d.1 d.2)
