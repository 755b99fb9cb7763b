use Rattle.limbo_compiler.proofs.Means as proved
use Rattle.limbo_compiler.proofs.laws.none_fault.Goals as goal

pub returns : goal.returns
returns c = proved.none_fault
