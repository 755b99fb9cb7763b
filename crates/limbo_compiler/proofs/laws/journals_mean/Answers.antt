use Rattle.limbo_compiler.proofs.Means as proved
use Rattle.limbo_compiler.proofs.laws.journals_mean.Goals as goal

pub returns : goal.returns
returns c = proved.journals_mean
