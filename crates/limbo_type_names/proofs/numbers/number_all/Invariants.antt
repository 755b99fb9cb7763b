use Rattle.std.proofs.Common.{◌≡◌, ℕ, Some, length, take, slice_get}
use Rattle.limbo_entries.specs.Entries.{Entry, IsEntry}
use Rattle.limbo_entries.specs.View.{entries_of}
use Rattle.limbo_type_names.specs.Numbers.{number_of}
use Rattle.limbo_type_names.specs.Counts.{AreCounts}
use Rattle.limbo_type_names.proofs.numbers.number_all.Given as goal

abbrev pub invariant-loop-entry : goal.invariant-loop-entry
invariant-loop-entry l = record {
  counts : AreCounts (take l.entry-index (entries_of l.table.entries.items)) l.counts;
  many : length l.counts.variants.items ≡ length l.table.entries.items;
  as_many : length l.numbers.items ≡ l.entry-index;
  numbers : (k n : ℕ) (e : Entry) → slice_get l.numbers.items k ≡ Some n → IsEntry (entries_of l.table.entries.items) k e
      → n ≡ number_of (entries_of l.table.entries.items) k e;
}
