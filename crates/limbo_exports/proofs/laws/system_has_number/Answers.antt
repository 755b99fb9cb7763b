use Rattle.limbo_exports.proofs.Builtin.{system_has}
use Rattle.limbo_exports.proofs.laws.system_has_number.Goals as goal

pub returns : goal.returns
returns c = system_has
