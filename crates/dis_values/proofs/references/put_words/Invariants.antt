use Rattle.std.proofs.Common.{◌≡◌, ◌+◌, take}
use Rattle.std.specs.Prelude.{map}
use Rattle.ref_heap.specs.Words.{cell_of}
use Rattle.dis_values.specs.References.{Puts}
use Rattle.dis_values.proofs.references.put_words.Given as goal

abbrev pub invariant-loop-word : goal.invariant-loop-word
invariant-loop-word l = record {
  place : l.i ≡ l.from + l.word-index;
  puts : Puts l.fn.heap l.heap l.block.serial l.from (take l.word-index (map cell_of l.words));
}
