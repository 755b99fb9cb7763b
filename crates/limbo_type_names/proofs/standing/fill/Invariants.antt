use Rattle.std.proofs.Common.{◌≡◌, ◌<◌, ℕ, Some, length, slice_get}
use Rattle.limbo_type_names.specs.Working.{entries_in, IsDone}
use Rattle.limbo_type_names.proofs.standing.fill.Given as goal

abbrev pub invariant-loop-number : goal.invariant-loop-number
invariant-loop-number l = record {
  many : length l.types.items ≡ length l.naming.table.now.entries.items;
  done : (i n : ℕ) → i < l.number-index → slice_get l.order i ≡ Some n → IsDone (entries_in l.naming) l.naming.implemented l.types.items n;
}
