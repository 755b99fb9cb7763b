-- What a heap of slots holds.
use Rattle.std.specs.Prelude.{◌≡◌, ℕ, ◌≤◌, true, List, [], ◌∷◌, Option, Some, None}
use Rattle.std.specs.Ordering.{nat_cmp}
use Rattle.std.specs.FinMap.{FinMap, from_entries}
use Rattle.std.specs.Vec.{vec_capacity}
use Rattle.slab.specs.Slab.{Slab}
use Rattle.ref_heap.specs.declared.heap.Heap.TheInside.{Inside}
use Rattle.ref_heap.specs.declared.slots.Slot.{Slot}
use Rattle.ref_heap.specs.Store.{Store, Block, IsHeap, at}
use Rattle.ref_heap.specs.Drops.{numbered}
use Rattle.ref_heap.specs.Slots.{block_of, IsUnique}

-- the serials of the blocks in these slots, and the blocks
abbrev pub listed : List (Option Slot) → List (ℕ × Block)
listed [] = []
listed (None ∷ rest) = listed rest
listed (Some s ∷ rest) = (s.serial, block_of s) ∷ listed rest

abbrev pub blocks_of : Slab Slot → FinMap nat_cmp Block
blocks_of m = from_entries (listed m.slots)

abbrev pub heap_of : ℕ → Slab Slot → List ℕ → Store
heap_of made m lost = record { made = made; blocks = blocks_of m; lost = lost }

abbrev pub store_of : Inside → Store
store_of a = heap_of a.made a.slots a.lost.items

-- what is true of the parts that calls change, with so many blocks for open files
pub record Stands (made : ℕ) (m : Slab Slot) (lost : List ℕ) (n : ℕ) : Type 0 where
  pub unique : IsUnique m
  pub heap : IsHeap (heap_of made m lost)
  pub counts : numbered made (λ _. true) (at (heap_of made m lost)) ≡ n

pub record IsKept (a : Inside) : Type 0 where
  pub stands : Stands a.made a.slots a.lost.items a.numbered
  pub room : a.numbered ≤ vec_capacity a.lost
