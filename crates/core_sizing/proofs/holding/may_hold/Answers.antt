use Rattle.std.proofs.Common.{◌∙◌}
use Rattle.limbo_layout.specs.View.{view_defs}
use Rattle.limbo_typed.specs.View.{view_expr}
use Rattle.core_sizing.proofs.Terms.{same_expr}
use Rattle.core_sizing.proofs.holding.may_hold.Goals as goal

pub returns : goal.returns
returns c = c.expr_holds.ensures ∙ same_expr (view_defs c.args.extents.now) (view_expr c.args.e.now)
