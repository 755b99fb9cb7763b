use Rattle.std.proofs.Common.{◌≡◌, ℕ, ◌<◌, length}
use Rattle.limbo_layout.specs.View.{view_defs}
use Rattle.limbo_adts.specs.Closed.{IsClosed, row_of, rows}
use Rattle.limbo_adts.proofs.closing.close.Given as goal

abbrev pub invariant-loop-number : goal.invariant-loop-number
invariant-loop-number l = record {
  same_length : length l.closed.items ≡ l.number;
  each : (n : ℕ) → n < l.number → IsClosed (view_defs l.defs) n (row_of (rows l.closed.items) n);
}
