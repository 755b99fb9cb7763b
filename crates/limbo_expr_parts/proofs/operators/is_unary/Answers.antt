use Rattle.limbo_expr_parts.proofs.Unaries.{unary}
use Rattle.limbo_expr_parts.proofs.operators.is_unary.Goals as goal

pub returns-in_default : goal.returns-in_default
returns-in_default c = unary c.args.tree.now c.in_default.not-Assign c.in_default.not-Load c.in_default.not-Binary
