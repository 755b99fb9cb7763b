use Rattle.std.proofs.Common.{◌≡◌, Some, take, drop}
use Rattle.std.specs.Prelude.{map}
use Rattle.ref_heap.specs.Words.{cell_of}
use Rattle.ref_heap.specs.Store.{Block, at, words_of}
use Rattle.dis_values.proofs.references.read_words.Given as goal

abbrev pub invariant-loop-i : goal.invariant-loop-i
invariant-loop-i l = (b : Block) → at l.heap l.block.serial ≡ Some b → map cell_of l.words.items ≡ take l.i (drop l.from (words_of b))
