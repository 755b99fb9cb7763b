use Rattle.std.proofs.Common.{ap, ◌∙◌}
use Rattle.limbo_typed.specs.Sound.{type_of}
use Rattle.limbo_typed.specs.View.{view_expr}
use Rattle.limbo_refusals.specs.Refusals.{Clash}
use Rattle.limbo_causes.specs.Causes.{Refused}
use Rattle.limbo_causes.proofs.Telling.{fails_weaker}
use Rattle.limbo_stmt_values.proofs.Told.{type_is}
use Rattle.limbo_stmt_values.proofs.endings.misfit.Goals as goal

pub returns : goal.returns
returns c =
    fails_weaker c.clash.result.cause _ _
    (λ k e. e ∙ ap (λ t. Refused (Clash (type_of (view_expr c.args.x.now)) t)) (type_is c.args.x.now)) c.clash.ensures
