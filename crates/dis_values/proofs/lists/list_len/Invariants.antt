use Rattle.std.proofs.Common.{List}
use Rattle.ref_heap.specs.Words.{Cell}
use Rattle.dis_values.specs.Making.{serial_of}
use Rattle.dis_values.specs.Lists.{IsList}
use Rattle.dis_values.proofs.Counted.{Left}
use Rattle.dis_values.proofs.lists.list_len.Given as goal

abbrev pub invariant-loop-i : goal.invariant-loop-i
invariant-loop-i l = (xs : List (List Cell)) → IsList l.heap (serial_of l.fn.list) xs → Left l.heap (serial_of l.rest) l.i xs
