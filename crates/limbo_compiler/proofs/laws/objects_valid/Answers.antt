use Rattle.limbo_compiler.proofs.Valid.{objects_valid}
use Rattle.limbo_compiler.proofs.laws.objects_valid.Goals as goal

pub returns : goal.returns
returns c = objects_valid
