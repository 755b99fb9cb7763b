-- What the laws speak of.
use Rattle.std.specs.Prelude.{◌≡◌, ℕ, ◌<◌, [], ◌∷◌, ◌++◌, length, slice_set, None, Some}
use Rattle.ref_heap.specs.Store.{AreHeld, IsHeap, Store, inside, outside}
use Rattle.ref_heap.specs.Drops.{Drops}
use Rattle.heap_model.specs.Heap.{Heap, at, stays}
use Rattle.heap_cuts.specs.Shapes.{Shape, naming_of, shapes}

-- References that are held outside of blocks are given away in one drop, which makes nothing.
pub record GivesAway (before after : Store) (given : ℕ → ℕ) : Type 0 where
  pub heap : IsHeap before
  pub held : AreHeld before given
  pub drops : Drops before after given
  pub made : after.made ≡ before.made

-- The next block has this shape, and block k is gone, which no word named and nothing holds any more. All others are as they were.
pub record StandsFor (before after : Store) (k : ℕ) (s : Shape) : Type 0 where
  pub heap : IsHeap after
  pub made : k < before.made
  pub unnamed : inside before k ≡ 0
  pub bare : naming_of s k ≡ 0
  pub unheld : outside after k ≡ 0
  pub blocks : shapes after ≡ slice_set (shapes before) k None ++ Some s ∷ []

-- The values of a heap, told in another way, name what they named.
abbrev pub NamesAlike : {A B : Type 0} → (A → B) → (A → ℕ → ℕ) → (B → ℕ → ℕ) → Heap A → Type 0
NamesAlike {A} f inside inside' h = (k : ℕ) (a : A) → at h k ≡ Some a → (n : ℕ) → inside' (f a) n ≡ inside a n

-- The second heap is the first without some of its values, none of which would stay.
pub record LosesOnlyWhatGoes {A : Type 0} (inside : A → ℕ → ℕ) (roots : ℕ → ℕ) (h g : Heap A) : Type 0 where
  pub long : length g ≡ length h
  pub part : (n : ℕ) (a : A) → at g n ≡ Some a → at h n ≡ Some a
  pub has : (n : ℕ) (a : A) → at (stays inside roots h) n ≡ Some a → at g n ≡ Some a
