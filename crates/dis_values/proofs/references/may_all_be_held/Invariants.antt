use Rattle.std.proofs.Common.{◌+◌, ◌<◌, ◌≤◌, ℕ, take}
use Rattle.std.specs.Prelude.{map}
use Rattle.ref_heap.specs.Words.{cell_of, naming}
use Rattle.ref_heap.specs.Answers.{most}
use Rattle.ref_heap.specs.Store.{at, count}
use Rattle.dis_values.proofs.references.may_all_be_held.Given as goal

abbrev pub invariant-loop-word : goal.invariant-loop-word
invariant-loop-word l =
    (n : ℕ) → 0 < naming (take l.word-index (map cell_of l.words)) n → count (at l.heap) n + naming (map cell_of l.words) n ≤ most
