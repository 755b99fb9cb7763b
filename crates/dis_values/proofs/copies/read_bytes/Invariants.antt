use Rattle.std.proofs.Common.{◌≡◌, ◌+◌, ◌<◌, ℕ, Some, length, slice_index}
use Rattle.ref_heap.specs.Store.{Block, at, words_of}
use Rattle.dis_values.specs.Bytes.{byte_of}
use Rattle.dis_values.proofs.copies.read_bytes.Given as goal

abbrev pub invariant-loop-i : goal.invariant-loop-i
invariant-loop-i l = record {
  len : length l.bytes.items ≡ l.i;
  each : (b : Block) → at l.heap l.block.serial ≡ Some b → (q : ℕ) → q < l.i
      → byte_of (words_of b) (l.from + q) ≡ slice_index l.bytes.items q;
}
