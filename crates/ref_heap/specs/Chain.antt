-- The chain of blocks that go: the count of each is the slot of the next.
use Rattle.std.specs.Prelude.{◌≡◌, ◌≢◌, ℕ, ◌+◌, ◌<◌, ◌≤◌, Bool, true, false, cond, eqb, List, [], ◌∷◌, Some, None, map}
use Rattle.std.specs.List.{count_by}
use Rattle.slab.specs.Slab.{Slab, get}
use Rattle.ref_heap.specs.declared.word.Word.{Word}
use Rattle.ref_heap.specs.declared.slots.Slot.{Slot}
use Rattle.ref_heap.specs.Words.{cell_of, naming}
use Rattle.ref_heap.specs.Answers.{most}
use Rattle.ref_heap.specs.Store.{Block, Blocks, count, names, naming_in}
use Rattle.ref_heap.specs.Drops.{IsPart, Settled, Freed, numbered}
use Rattle.ref_heap.specs.Slots.{kept, IsUnique}

-- the heap now, while the names that `due` counts are still to be dropped
pub record Dropping (limit : ℕ) (outside : ℕ → ℕ) (before now : Blocks) (due : ℕ → ℕ) : Type 0 where
  pub exact : (n : ℕ) → count now n ≡ outside n + names limit now n + due n
  pub counted : (n : ℕ) (b : Block) → now n ≡ Some b → 0 < b.count
  pub part : IsPart now before
  pub greatest : (m : Blocks) → IsPart m before → Settled limit outside m → IsPart m now

abbrev pub has : ℕ → List ℕ → Bool
has n [] = false
has n (x ∷ xs) = cond (eqb x n) true (has n xs)

-- the blocks that are not in the chain
abbrev pub without : List ℕ → Blocks → Blocks
without chain all n = cond (has n chain) None (all n)

-- how many words of the chain's blocks name block n
abbrev pub chain_names : Blocks → List ℕ → ℕ → ℕ
chain_names all [] n = 0
chain_names all (x ∷ xs) n = naming_in (all x) n + chain_names all xs n

-- slots with the serials of their blocks
abbrev pub Links : Type 0
Links = List (ℕ × ℕ)

abbrev pub serials : Links → List ℕ
serials [] = []
serials (l ∷ ls) = l.1 ∷ serials ls

-- from this head each block's count is the next slot of the chain, and the last one's is the greatest number
abbrev pub Threaded : Slab Slot → ℕ → Links → Type 0
Threaded m head [] = head ≡ most
Threaded m head (l ∷ ls) = (head ≡ l.0) × (l.0 ≢ most) × (has l.1 (serials ls) ≡ false) × ((b : Slot) × (get m l.0 ≡ Some b) × (b.serial ≡ l.1) × Threaded m b.count ls)

-- the slots while the names that `rest` counts, and those in the chain, are still to be dropped
pub record Loose (limit : ℕ) (outside : ℕ → ℕ) (before : Blocks) (m : Slab Slot) (head : ℕ) (rest : ℕ → ℕ) : Type 0 where
  pub links : Links
  pub threaded : Threaded m head links
  pub dropping : Dropping limit outside before (without (serials links) (kept m)) (λ n. rest n + chain_names (kept m) (serials links) n)
  pub bounded : (n : ℕ) (b : Block) → kept m n ≡ Some b → n < limit

-- how often these words name each block
abbrev pub named : List Word → ℕ → ℕ
named words = naming (map cell_of words)

-- whatever else is held, the names in these words are dropped
abbrev pub DropsAll : Slab Slot → Slab Slot → List Word → ℕ → ℕ → Type 0
DropsAll old new words head next =
    (limit : ℕ) (outside : ℕ → ℕ) (before : Blocks) → Loose limit outside before old head (named words) → Loose limit outside before new next (λ _. 0)

-- there is such a drop, and what it may list has room
pub record Ready (m : Slab Slot) (head len capacity : ℕ) : Type 0 where
  pub unique : IsUnique m
  pub limit : ℕ
  pub outside : ℕ → ℕ
  pub before : Blocks
  pub loose : Loose limit outside before m head (λ _. 0)
  pub room : numbered limit (λ _. true) (kept m) + len ≤ capacity

-- whatever else is held, the chain is freed, and the numbers of its blocks are listed
abbrev pub FreesAll : Slab Slot → Slab Slot → ℕ → List ℕ → List ℕ → Type 0
FreesAll old new head lost lost' =
    (limit : ℕ) (outside : ℕ → ℕ) (before : Blocks)
    → Loose limit outside before old head (λ _. 0)
    → Freed limit outside before (kept new) × ((p : ℕ → Bool) → count_by p lost' + numbered limit p (kept new) ≡ count_by p lost + numbered limit p (kept old))

-- the references in these words are given away, and what may go has room
pub record Releasable (m : Slab Slot) (words : List Word) (capacity : ℕ) : Type 0 where
  pub unique : IsUnique m
  pub limit : ℕ
  pub outside : ℕ → ℕ
  pub loose : Loose limit outside (kept m) m most (named words)
  pub room : numbered limit (λ _. true) (kept m) ≤ capacity

abbrev pub Releases : Slab Slot → Slab Slot → List Word → List ℕ → Type 0
Releases old new words lost =
    (limit : ℕ) (outside : ℕ → ℕ)
    → Loose limit outside (kept old) old most (named words)
    → Freed limit outside (kept old) (kept new) × ((p : ℕ → Bool) → count_by p lost + numbered limit p (kept new) ≡ numbered limit p (kept old))
