use Rattle.std.proofs.Common.{◌∙◌}
use Rattle.limbo_layout.specs.View.{view_defs}
use Rattle.limbo_typed.specs.View.{view_exprs}
use Rattle.core_sizing.proofs.Terms.{same_exprs}
use Rattle.core_sizing.proofs.holding.some_may_hold.Goals as goal

pub returns : goal.returns
returns c = c.exprs_hold.ensures ∙ same_exprs (view_defs c.args.extents.now) (view_exprs c.args.es.now)
