-- Steps of a source that let nothing go, said without a cut.
use Rattle.std.specs.Prelude.{ℕ, ◌≡◌, ◌<◌, ◌⊎◌, true, Some}
use Rattle.heap_model.specs.Heap.{Heap, at, there}

module _ {V P : Type 0} (inside : V → ℕ → ℕ) (names : P → ℕ → ℕ) where
  -- What the process named it still names, what is there stays there and names what it named, and what is new is named.
  pub record IsQuiet (w : Heap V) (p : P) (w' : Heap V) (p' : P) : Type 0 where
    pub named : (n : ℕ) → 0 < names p n → 0 < names p' n
    pub still : (m : ℕ) (v : V) → at w m ≡ Some v → (v' : V) × (at w' m ≡ Some v') × ((n : ℕ) → 0 < inside v n → 0 < inside v' n)
    pub new : (m : ℕ) (v : V) → at w' m ≡ Some v → (there (at w m) ≡ true) ⊎ (0 < names p' m)
