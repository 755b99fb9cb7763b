use Rattle.std.proofs.Common.{◌≡◌, ℕ, ◌+◌, Bool}
use Rattle.std.specs.List.{count_by}
use Rattle.std.specs.Vec.{vec_len, vec_capacity}
use Rattle.slab.specs.Slab.{slab_len}
use Rattle.ref_heap.specs.Store.{Blocks}
use Rattle.ref_heap.specs.Drops.{numbered}
use Rattle.ref_heap.specs.Slots.{kept}
use Rattle.ref_heap.specs.Chain.{Loose, Ready}
use Rattle.ref_heap.proofs.freeing.free_chain.Given as goal

abbrev pub invariant-loop-head : goal.invariant-loop-head
invariant-loop-head l = record {
  ready : Ready l.slots l.head (vec_len l.lost) (vec_capacity l.lost);
  drops : (limit : ℕ) (outside : ℕ → ℕ) (before : Blocks) → Loose limit outside before l.fn.slots l.fn.first (λ _. 0)
      → Loose limit outside before l.slots l.head (λ _. 0);
  lists : (limit : ℕ) (outside : ℕ → ℕ) (before : Blocks) → Loose limit outside before l.fn.slots l.fn.first (λ _. 0)
      → (p : ℕ → Bool) → count_by p l.lost.items + numbered limit p (kept l.slots) ≡ count_by p l.fn.lost.items + numbered limit p (kept l.fn.slots);
  capacity : vec_capacity l.lost ≡ vec_capacity l.fn.lost;
}

abbrev pub decreases-loop-head : goal.decreases-loop-head
decreases-loop-head l = slab_len l.slots
