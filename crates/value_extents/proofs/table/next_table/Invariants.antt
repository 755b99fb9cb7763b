use Rattle.std.proofs.Common.{◌≡◌, take}
use Rattle.limbo_layout.specs.View.{view_defs}
use Rattle.value_extents.specs.Extent.{round}
use Rattle.value_extents.proofs.table.next_table.Given as goal

abbrev pub invariant-loop-def : goal.invariant-loop-def
invariant-loop-def l = l.next.items ≡ round l.table (view_defs (take l.def-index l.defs))
