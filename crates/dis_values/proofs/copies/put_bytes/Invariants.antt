use Rattle.std.proofs.Common.{◌≡◌, ◌+◌, ℕ, slice_index}
use Rattle.ref_heap.specs.Store.{outside}
use Rattle.dis_values.specs.Bytes.{byte_of}
use Rattle.dis_values.specs.Copies.{Writes}
use Rattle.dis_values.proofs.copies.put_bytes.Given as goal

abbrev pub invariant-loop-byte : goal.invariant-loop-byte
invariant-loop-byte l = record {
  place : l.i ≡ l.from + l.byte-index;
  writes : Writes byte_of l.fn.heap l.heap l.block.serial l.from l.byte-index (λ q. slice_index l.bytes q);
  held : (n : ℕ) → outside l.heap n ≡ outside l.fn.heap n;
}
