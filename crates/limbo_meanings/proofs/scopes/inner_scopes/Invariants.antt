use Rattle.std.proofs.Common.{◌≡◌, ℕ, List, Some, length, take, slice_get}
use Rattle.limbo_scope.specs.Scopes.{Scope}
use Rattle.limbo_entries.specs.View.{entries_of}
use Rattle.limbo_meanings.specs.Names.{scope_inside}
use Rattle.limbo_meanings.proofs.scopes.inner_scopes.Given as goal

abbrev pub invariant-loop-number : goal.invariant-loop-number
invariant-loop-number l = record {
  many : length l.rows.items ≡ length l.table.entries.items;
  each : (a : ℕ) (row : List Scope) → slice_get l.rows.items a ≡ Some row
      → row ≡ scope_inside a (take l.number l.meanings) (take l.number (entries_of l.table.entries.items));
}
