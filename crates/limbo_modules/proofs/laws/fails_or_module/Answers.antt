use Rattle.limbo_modules.proofs.Failing.{fails_or_module}
use Rattle.limbo_modules.proofs.laws.fails_or_module.Goals as goal

pub returns : goal.returns
returns c =
    fails_or_module c.circles_stand_for_nothing.ensures c.fails_or_means.ensures c.one_context.ensures c.fails_or_context.ensures
    c.forbidden_or_all_permitted.ensures c.fails_or_states.ensures.functions
