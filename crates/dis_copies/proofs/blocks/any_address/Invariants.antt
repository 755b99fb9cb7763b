use Rattle.std.proofs.Common.{take}
use Rattle.ref_heap.specs.Words.{Content}
use Rattle.dis_copies.specs.Changes.{TakesAll}
use Rattle.dis_copies.proofs.blocks.any_address.Given as goal

abbrev pub invariant-loop-k : goal.invariant-loop-k
invariant-loop-k l = (c : Content) → TakesAll c (take l.k l.words)
