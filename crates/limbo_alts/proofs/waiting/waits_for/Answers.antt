use Rattle.std.proofs.Common.{ap, ◌∙◌}
use Rattle.limbo_typed.specs.declared.expr.TExpr as code_expr
use Rattle.limbo_typed.specs.View.{view_expr}
use Rattle.limbo_stmt_values.specs.limbo_stating.Alts.{waits_for}
use Rattle.limbo_alts.proofs.Nodes.{waits_none}
use Rattle.limbo_alts.proofs.waiting.waits_for.Goals as goal

pub returns : goal.returns
returns c =
    waits_none c.into_inner-node.result c.in_default.not-Assign c.in_default.not-Send c.in_default.not-Receive
    ∙ ap (λ (z : code_expr.TExpr). waits_for (view_expr z)) c.into_inner-node.ensures
