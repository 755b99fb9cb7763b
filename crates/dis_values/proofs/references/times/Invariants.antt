use Rattle.std.proofs.Common.{◌≡◌, take}
use Rattle.std.specs.Prelude.{map}
use Rattle.ref_heap.specs.Words.{cell_of, naming}
use Rattle.dis_values.proofs.references.times.Given as goal

abbrev pub invariant-loop-word : goal.invariant-loop-word
invariant-loop-word l = l.times ≡ naming (take l.word-index (map cell_of l.words)) l.serial
