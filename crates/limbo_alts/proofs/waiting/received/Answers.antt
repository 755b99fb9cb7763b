use Rattle.std.proofs.Common.{ap, ◌∙◌}
use Rattle.limbo_typed.specs.declared.expr.TExpr as code_expr
use Rattle.limbo_typed.specs.View.{view_expr, view_pattern}
use Rattle.limbo_alts.specs.Assigned.{received_to}
use Rattle.limbo_alts.proofs.Nodes.{received_none}
use Rattle.limbo_alts.proofs.waiting.received.Goals as goal

pub returns-in_default : goal.returns-in_default
returns-in_default c =
    received_none (view_pattern c.args.pattern.value) c.into_inner-node.result c.in_default.not-Receive
    ∙ ap (λ (z : code_expr.TExpr). received_to (view_pattern c.args.pattern.value) (view_expr z)) c.into_inner-node.ensures
