use Rattle.std.proofs.Common.{arith}
use Rattle.ref_heap.proofs.View.{empty_stands, at_empty}
use Rattle.ref_heap.proofs.heap.Heap.new.Goals as goal

pub invariant_of-result : goal.invariant_of-result
invariant_of-result c = record { stands = empty_stands c.in_ok-slots.slots c.new.result.items c.in_ok-slots.ensures.empty; room = omega arith }

pub returns-clause-blocks : goal.returns-clause-blocks
returns-clause-blocks c n = at_empty c.in_ok-slots.slots n c.in_ok-slots.ensures.empty
