use Rattle.std.proofs.Common.{◌≡◌, ◌+◌, ℕ, take}
use Rattle.std.specs.Prelude.{map}
use Rattle.ref_heap.specs.Words.{cell_of, naming}
use Rattle.ref_heap.specs.Store.{outside}
use Rattle.dis_values.specs.References.{Holds}
use Rattle.dis_values.proofs.references.hold_words.Given as goal

abbrev pub invariant-loop-word : goal.invariant-loop-word
invariant-loop-word l = record {
  holds : Holds l.fn.heap l.heap (naming (take l.word-index (map cell_of l.words)));
  held : (n : ℕ) → outside l.heap n ≡ outside l.fn.heap n + naming (take l.word-index (map cell_of l.words)) n;
}
