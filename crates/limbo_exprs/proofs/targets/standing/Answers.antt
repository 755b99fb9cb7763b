use Rattle.limbo_typed.specs.View.{view_expr}
use Rattle.limbo_context.specs.View.{view_context}
use Rattle.limbo_exprs.proofs.Outcomes.{stands_typed}
use Rattle.limbo_exprs.proofs.Rules.{answer_fails, permit_fails, value_fails}
use Rattle.limbo_exprs.proofs.Steps.{answered_typed, by_rule}
use Rattle.limbo_exprs.proofs.targets.standing.Goals as goal

pub returns-in-Ok-clause-typed : goal.returns-in-Ok-clause-typed
returns-in-Ok-clause-typed c b d e h =
    answered_typed (view_context c.args.context.now) b d e c.in-Ok.x c.answered.result
    (stands_typed (view_context c.args.context.now) b d e c.args.x c.in-Ok.x c.in-Ok.ensures.same c.in-Ok.ensures.permitted h)
    c.answered.ensures.same c.answered.ensures.answers

pub returns-in-Ok-clause-refused : goal.returns-in-Ok-clause-refused
returns-in-Ok-clause-refused c b d e h =
    by_rule c.answered.result c.answered.ensures.refused (λ f w.
    answer_fails (view_context c.args.context.now) b f e (view_expr c.in-Ok.x.value) d
    (stands_typed (view_context c.args.context.now) b d e c.args.x c.in-Ok.x c.in-Ok.ensures.same c.in-Ok.ensures.permitted h) w)

pub returns-in-Err-clause-refused : goal.returns-in-Err-clause-refused
returns-in-Err-clause-refused c b d e h =
    value_fails (view_context c.args.context.now) b c.in-Err.fault.cause e
    (permit_fails (view_context c.args.context.now) b c.in-Err.fault.cause e (view_expr c.args.x.value) d h c.in-Err.ensures.refused)
