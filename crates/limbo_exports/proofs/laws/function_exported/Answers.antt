use Rattle.limbo_exports.proofs.Numbers.{function_is}
use Rattle.limbo_exports.proofs.laws.function_exported.Goals as goal

pub returns : goal.returns
returns c = function_is
