use Rattle.std.proofs.Common.{◌≡◌, ◌≤◌, ℕ, List, Option, length, slice_get}
use Rattle.limbo_scope.specs.declared.meaning.Meaning.{Meaning}
use Rattle.limbo_entries.specs.View.{entries_of}
use Rattle.limbo_meanings.specs.Names.{AreInner}
use Rattle.limbo_outline.specs.Outline.{ScopesTo}
use Rattle.limbo_outline.proofs.members.list_scopes.Given as goal

abbrev pub invariant-loop-number : goal.invariant-loop-number
invariant-loop-number l = record {
  many : length l.rows.items ≡ length l.table.entries.items;
  kept : (a : ℕ) → l.number ≤ a → slice_get l.rows.items a ≡ slice_get l.fn.inner.items a;
  listed : (means : List (Option Meaning)) → AreInner means (entries_of l.table.entries.items) l.fn.inner.items
      → ScopesTo (entries_of l.table.entries.items) l.implemented l.kind means l.number l.scopes.items;
}
