use Rattle.std.proofs.Common.{◌≡◌, ℕ, ◌+◌, take}
use Rattle.ref_heap.specs.Store.{outside}
use Rattle.dis_stores.specs.Storing.{SameShapes}
use Rattle.dis_copies.specs.Spans.{all_named}
use Rattle.dis_copies.proofs.holds.hold_words.Given as goal

abbrev pub invariant-loop-k : goal.invariant-loop-k
invariant-loop-k l = record {
  same : SameShapes l.initial.heap l.heap;
  outside : (n : ℕ) → outside l.heap n ≡ outside l.initial.heap n + all_named (take l.k l.words) n;
}
