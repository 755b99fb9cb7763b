use Rattle.std.proofs.Common.{◌≡◌, map, take}
use Rattle.ref_heap.specs.declared.word.Word.TheVariants.{Plain}
use Rattle.ref_heap.proofs.words.as_words.Given as goal

abbrev pub invariant-loop-number : goal.invariant-loop-number
invariant-loop-number l = l.words.items ≡ map Plain (take l.number-index l.numbers)
