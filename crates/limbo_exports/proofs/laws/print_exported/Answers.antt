use Rattle.limbo_exports.proofs.Numbers.{print_is}
use Rattle.limbo_exports.proofs.laws.print_exported.Goals as goal

pub returns : goal.returns
returns c = print_is
