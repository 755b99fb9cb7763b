-- What two languages say of the contents of their heaps, and all that is ever asked of it: which names values have in them, which
-- blocks are those of a string and of a part of an array, and when a block stands for a value, of the form that is known of it.
use Rattle.std.specs.Prelude.{ℕ, ◌≡◌, ◌<◌, List}
use Rattle.heap_model.specs.Facts.{Facts, Grows, Refers, Covers}

pub record Contents (V B F : Type 0) : Type 1 where
  -- How often a heap value names each, and how often the words of a block do.
  pub inside : V → ℕ → ℕ
  pub words : B → ℕ → ℕ
  -- The block of a string, and the one of part of an array, from where on and how long, which holds the array's block alone.
  pub text : List ℕ → B
  pub part : (start length array : ℕ) → B
  -- A block, of this serial, stands for a heap value, by what is known of it and of the blocks that its words name.
  pub stands : Facts B F → (block : ℕ) → V → B → Type 0
  pub text_names : (t : List ℕ) (n : ℕ) → words (text t) n ≡ 0
  pub part_names : (start length array : ℕ) → 0 < words (part start length array) array
  pub part_only : (start length array n : ℕ) → 0 < words (part start length array) n → array ≡ n
  -- It does so for good, and names a block for each value that the value names, and no others but strings.
  pub grows : (k k' : Facts B F) (n : ℕ) (v : V) (b : B) → Grows k k' → stands k n v b → stands k' n v b
  pub to : (k : Facts B F) (n : ℕ) (v : V) (b : B) (m : ℕ) → stands k n v b → 0 < inside v m → (q : ℕ) × (0 < words b q) × Refers k m q
  pub from : (k : Facts B F) (n : ℕ) (v : V) (b : B) (q : ℕ) → stands k n v b → 0 < words b q → Covers k (λ m. 0 < inside v m) q
