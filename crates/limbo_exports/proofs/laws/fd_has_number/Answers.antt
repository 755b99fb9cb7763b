use Rattle.limbo_exports.proofs.Builtin.{fd_has}
use Rattle.limbo_exports.proofs.laws.fd_has_number.Goals as goal

pub returns : goal.returns
returns c = fd_has
