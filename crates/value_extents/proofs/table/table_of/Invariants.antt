use Rattle.std.proofs.Common.{◌≡◌}
use Rattle.limbo_layout.specs.View.{view_defs}
use Rattle.value_extents.specs.Extent.{table_after}
use Rattle.value_extents.proofs.table.table_of.Given as goal

abbrev pub invariant-loop : goal.invariant-loop
invariant-loop l = l.table.items ≡ table_after (view_defs l.defs) l.counter
