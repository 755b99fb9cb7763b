use Rattle.std.proofs.Common.{◌≡◌, ◌+◌, ℕ, Some, slice_index}
use Rattle.std.specs.Prelude.{slice_get}
use Rattle.ref_heap.specs.Words.{plain}
use Rattle.ref_heap.specs.Store.{outside}
use Rattle.dis_values.specs.Copies.{Writes}
use Rattle.dis_values.proofs.copies.put_numbers.Given as goal

abbrev pub invariant-loop-number : goal.invariant-loop-number
invariant-loop-number l = record {
  place : l.i ≡ l.from + l.number-index;
  writes : Writes slice_get l.fn.heap l.heap l.block.serial l.from l.number-index (λ q. Some (plain (slice_index l.numbers q)));
  held : (n : ℕ) → outside l.heap n ≡ outside l.fn.heap n;
}
