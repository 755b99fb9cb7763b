use Rattle.std.proofs.Common.{◌∙◌}
use Rattle.limbo_layout.specs.View.{view_defs}
use Rattle.limbo_typed.specs.View.{view_place_node}
use Rattle.core_sizing.proofs.Terms.{same_way}
use Rattle.core_sizing.proofs.holding.operands_may_hold.Goals as goal

pub returns : goal.returns
returns c = c.way_holds.ensures ∙ same_way (view_defs c.args.extents.now) (view_place_node c.args.place.now)
