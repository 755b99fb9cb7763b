use Rattle.std.proofs.Common.{◌≡◌, ℕ, List, Some, length, take, slice_get}
use Rattle.limbo_entries.specs.View.{entries_of}
use Rattle.limbo_order.specs.View.{rows}
use Rattle.limbo_source_adts.specs.Inside.{numbers_inside}
use Rattle.limbo_source_adts.proofs.inside.find_inside.Given as goal

abbrev pub invariant-loop-number : goal.invariant-loop-number
invariant-loop-number l = record {
  many : length (rows l.all.items) ≡ length l.table.entries.items;
  each : (a : ℕ) (row : List ℕ) → slice_get (rows l.all.items) a ≡ Some row → row ≡ numbers_inside (take l.number (entries_of l.table.entries.items)) a;
}
