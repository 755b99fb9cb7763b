use Rattle.std.proofs.Common.{take}
use Rattle.limbo_constants.specs.View.{view_parts}
use Rattle.limbo_constant_values.specs.Asking.{AreNeeds}
use Rattle.limbo_constant_values.proofs.needs.needs_in.Given as goal

-- what those so far name was found
abbrev pub invariant-loop-part : goal.invariant-loop-part
invariant-loop-part l = AreNeeds l.naming l.scope (view_parts (take l.part-index l.part-items)) l.row.items
