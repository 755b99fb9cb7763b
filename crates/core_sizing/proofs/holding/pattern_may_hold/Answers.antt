use Rattle.std.proofs.Common.{◌∙◌}
use Rattle.limbo_layout.specs.View.{view_defs}
use Rattle.limbo_typed.specs.View.{view_pattern}
use Rattle.core_sizing.proofs.Terms.{same_pattern}
use Rattle.core_sizing.proofs.holding.pattern_may_hold.Goals as goal

pub returns : goal.returns
returns c = c.pattern_holds.ensures ∙ same_pattern (view_defs c.args.extents.now) (view_pattern c.args.pattern.now)
