use Rattle.std.proofs.Common.{◌≡◌, ℕ, List, Some, length, slice_get}
use Rattle.limbo_order.specs.View.{rows}
use Rattle.limbo_type_names.specs.Working.{AreNeedsOf}
use Rattle.limbo_type_names.proofs.needs.all_needs.Given as goal

abbrev pub invariant-loop-number : goal.invariant-loop-number
invariant-loop-number l = record {
  many : length l.all.items ≡ l.number;
  each : (k : ℕ) (row : List ℕ) → slice_get (rows l.all.items) k ≡ Some row → AreNeedsOf l.naming k row;
}
