use Rattle.limbo_modules.proofs.Single.{one_module}
use Rattle.limbo_modules.proofs.laws.one_module.Goals as goal

pub returns : goal.returns
returns c = one_module c.one_context.ensures c.one_beginnings.ensures c.one_statement.ensures.functions
