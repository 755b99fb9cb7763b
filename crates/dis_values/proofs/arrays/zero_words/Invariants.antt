use Rattle.std.proofs.Common.{◌≡◌}
use Rattle.std.specs.Prelude.{map}
use Rattle.ref_heap.specs.Words.{cell_of}
use Rattle.dis_values.specs.Arrays.{zeroed_words}
use Rattle.dis_values.proofs.arrays.zero_words.Given as goal

abbrev pub invariant-loop-j : goal.invariant-loop-j
invariant-loop-j l = map cell_of l.words.items ≡ zeroed_words l.size l.marks 0 l.j
