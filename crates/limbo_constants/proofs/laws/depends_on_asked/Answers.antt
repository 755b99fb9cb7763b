use Rattle.limbo_constants.proofs.Depends as depends
use Rattle.limbo_constants.proofs.laws.depends_on_asked.Goals as goal

pub returns : goal.returns
returns c = depends.depends_on_asked
