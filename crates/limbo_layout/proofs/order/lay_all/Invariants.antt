use Rattle.std.proofs.Common.{ℕ, ◌<◌, true}
use Rattle.limbo_layout.specs.Paths.{IsReady, IsAt}
use Rattle.limbo_layout.specs.View.{view_defs}
use Rattle.limbo_layout.proofs.order.lay_all.Given as goal

abbrev pub invariant-loop-number : goal.invariant-loop-number
invariant-loop-number l = record {
  ready : IsReady (view_defs l.defs) l.table.rooms.items l.table.laid.items l.table.entered.items;
  below : (n : ℕ) → n < l.number → IsAt l.table.laid.items n true;
}
