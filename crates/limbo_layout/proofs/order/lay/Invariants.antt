use Rattle.std.proofs.Common.{ℕ, true}
use Rattle.limbo_layout.specs.Paths.{Climbs, IsAt, left}
use Rattle.limbo_layout.specs.View.{view_defs}
use Rattle.limbo_layout.proofs.order.lay.Given as goal

abbrev pub invariant-climbing : goal.invariant-climbing
invariant-climbing l = record {
  climbs : Climbs (view_defs l.defs) l.first l.table.rooms.items l.table.laid.items l.table.entered.items l.path.items;
  keeps : (n : ℕ) → IsAt l.fn.table.laid.items n true → IsAt l.table.laid.items n true;
}

abbrev pub decreases-climbing : goal.decreases-climbing
decreases-climbing l = left l.table.entered.items l.path.items
