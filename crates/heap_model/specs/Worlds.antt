-- A machine's heap stands for a source's, contents and all.
use Rattle.std.specs.Prelude.{ℕ, ◌≡◌, ◌<◌, ◌≤◌, ◌⊎◌, List, length, Option, Some, None}
use Rattle.heap_model.specs.Kept.{Graph, IsClosed}
use Rattle.heap_model.specs.Heap.{Heap, at, graph}
use Rattle.heap_model.specs.Facts.{Chars, Part, Bare, Carrier, Facts, IsUnmade, Grows, Is, Free, Inner}
use Rattle.heap_model.specs.Contents.{Contents}

-- One place of a heap is set, and the others are as they were.
pub record Sets {A : Type 0} (old new : Heap A) (n : ℕ) (v : Option A) : Type 0 where
  pub here : at new n ≡ v
  pub apart : (q : ℕ) → (q ≡ n → ⊥) → at new q ≡ at old q

module _ {V B F : Type 0} (c : Contents V B F) where
  abbrev pub values : Heap V → Graph
  values w = graph c.inside w

  abbrev pub blocks : Heap B → Graph
  blocks x = graph c.words x

  -- Each value has a block, which stands for it, and no other block does; strings, parts and carriers are what they are known to be;
  -- a free block that names a free block is the older of the two; what stands for nothing for good has gone; and no reference names what
  -- isn't there. Roots aren't spoken of.
  pub record WorldsAlike (k : Facts B F) (w : Heap V) (x : Heap B) : Type 0 where
    pub unmade : (n : ℕ) → length x ≤ n → IsUnmade k n
    pub unnamed : (m n : ℕ) → length w ≤ m → Is k m n → ⊥
    pub there : (m : ℕ) (v : V) → at w m ≡ Some v → (n : ℕ) × (b : B) × Is k m n × (at x n ≡ Some b) × c.stands k n v b
    pub here : (m n : ℕ) (b : B) → Is k m n → at x n ≡ Some b → (v : V) × (at w m ≡ Some v)
    pub texts : (n : ℕ) (t : List ℕ) (b : B) → k.fact n ≡ Some (Chars t) → at x n ≡ Some b → b ≡ c.text t
    pub parts : (n m s l : ℕ) (b : B) → k.fact n ≡ Some (Part m s l) → at x n ≡ Some b → (q : ℕ) × (b ≡ c.part s l q) × Is k m q
    pub carriers : (n : ℕ) (d b : B) → k.fact n ≡ Some (Carrier d) → at x n ≡ Some b → (b ≡ d) × ((q : ℕ) → 0 < c.words d q → Inner k q → ⊥)
    pub frees : (n q : ℕ) (b : B) → Free k n → Free k q → at x n ≡ Some b → 0 < c.words b q → n < q
    pub bares : (n : ℕ) (b : B) → k.fact n ≡ Some Bare → at x n ≡ Some b → ⊥
    pub closed : IsClosed (blocks x)

-- What a step of these processes changes before the cut: nothing goes, of free blocks only their own change, and no carrier does.
pub record Changes {B F : Type 0} (these : ℕ → Type 0) (k k' : Facts B F) (x x' : Heap B) : Type 0 where
  pub grows : Grows k k'
  pub there : (q : ℕ) (b : B) → at x q ≡ Some b → (c : B) × (at x' q ≡ Some c)
  pub free : (q j : ℕ) → Free k q → k.maker q ≡ Some j → (these j → ⊥) → (k'.fact q ≡ k.fact q) × (at x' q ≡ at x q)
  pub carriers : (q : ℕ) (b : B) → k.fact q ≡ Some (Carrier b) → at x' q ≡ at x q

-- What a step of other processes, and each cut, leave process j: its own free blocks are as they were, while it holds them.
pub record Leaves {B F : Type 0} (j : ℕ) (k k' : Facts B F) (x x' : Heap B) : Type 0 where
  pub grows : Grows k k'
  pub free : (q : ℕ) → Free k q → k.maker q ≡ Some j → ((k'.fact q ≡ k.fact q) × (at x' q ≡ at x q)) ⊎ (Free k' q × (at x' q ≡ None))
