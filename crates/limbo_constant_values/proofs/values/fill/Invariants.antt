use Rattle.std.proofs.Common.{◌≡◌, ◌<◌, ℕ, Some, length, slice_get}
use Rattle.limbo_constant_values.specs.Valuing.{AreSound, IsDone}
use Rattle.limbo_constant_values.proofs.values.fill.Given as goal

abbrev pub invariant-loop-number : goal.invariant-loop-number
invariant-loop-number l = record {
  many : length l.values.items ≡ length l.table.entries.items;
  sound : AreSound l.naming l.values.items;
  done : (i n : ℕ) → i < l.number-index → slice_get l.order i ≡ Some n → IsDone l.naming n l.values.items;
}
