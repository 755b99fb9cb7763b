use Rattle.std.proofs.Common.{◌≡◌, ◌<◌, ℕ, Some, length, take, slice_get}
use Rattle.limbo_entries.specs.Entries.{Entry, IsEntry}
use Rattle.limbo_entries.specs.View.{entries_of}
use Rattle.limbo_meanings.specs.Meanings.{AreCounts, meaning_of}
use Rattle.limbo_meanings.proofs.meanings.find_meanings.Given as goal

abbrev pub invariant-loop-entry : goal.invariant-loop-entry
invariant-loop-entry l = record {
  each : length l.counts ≡ 8;
  counts : AreCounts (entries_of l.table.entries.items) l.implemented (take l.entry-index (entries_of l.table.entries.items)) l.counts;
  as_many : length l.all.items ≡ l.entry-index;
  meanings : (k : ℕ) (e : Entry) → k < l.entry-index → IsEntry (entries_of l.table.entries.items) k e
      → slice_get l.all.items k ≡ Some (meaning_of (entries_of l.table.entries.items) l.implemented k e);
}
