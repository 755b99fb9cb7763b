use Rattle.std.proofs.Common.{◌≡◌, ◌<◌, ℕ, Option, Some, length, slice_get}
use Rattle.limbo_scope.specs.declared.meaning.Meaning.{Meaning}
use Rattle.limbo_entries.specs.Entries.{Entry, IsEntry}
use Rattle.limbo_entries.specs.View.{entries_of}
use Rattle.limbo_exports.specs.Exports.{export_by}
use Rattle.limbo_exports.proofs.exports.find_exports.Given as goal

abbrev pub invariant-loop-number : goal.invariant-loop-number
invariant-loop-number l = record {
  as_many : length l.all.items ≡ l.number;
  told : (k : ℕ) (e : Entry) (x : Option Meaning) → k < l.number → IsEntry (entries_of l.table.entries.items) k e → slice_get l.meanings k
      ≡ Some x
      → slice_get l.all.items k ≡ Some (export_by (entries_of l.table.entries.items) l.builtin k e x);
}
