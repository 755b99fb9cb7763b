use Rattle.std.proofs.Common.{ℕ, drop}
use Rattle.ref_heap.specs.Store.{Blocks}
use Rattle.ref_heap.specs.Slots.{IsUnique, KeepsNumbers}
use Rattle.ref_heap.specs.Chain.{Loose, named}
use Rattle.ref_heap.proofs.freeing.drop_names.Given as goal

-- the names in the words that are left are still to be dropped
abbrev pub invariant-loop-word : goal.invariant-loop-word
invariant-loop-word l = record {
  unique : IsUnique l.slots;
  numbers : KeepsNumbers l.fn.slots l.slots;
  drops : (limit : ℕ) (outside : ℕ → ℕ) (before : Blocks)
      → Loose limit outside before l.fn.slots l.fn.first (named l.words)
      → Loose limit outside before l.slots l.head (named (drop l.word-index l.words));
}
