use Rattle.limbo_compiler.proofs.Means as proved
use Rattle.limbo_compiler.proofs.laws.counts_exact.Goals as goal

pub returns : goal.returns
returns c = proved.counts_exact
