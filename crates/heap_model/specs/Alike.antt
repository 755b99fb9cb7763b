-- When a machine's heap stands for a source's, by their references alone, and what is held of both.
use Rattle.std.specs.Prelude.{ℕ, ◌≡◌, ◌<◌, ◌⊎◌, Bool, true, false, List, Some}
use Rattle.heap_model.specs.Kept.{Graph, IsClosed, only}
use Rattle.heap_model.specs.Facts.{Chars, Part, Carrier, Facts, Grows, Is, Free, Inner, Refers, Covers}

-- The live blocks that stand for heap values are one for each, and hold what these hold; parts hold their arrays, strings hold
-- nothing, carriers hold no inner block, and of two free blocks only the older holds the younger.
pub record SameHeaps {B F : Type 0} (k : Facts B F) (g h : Graph) : Type 0 where
  pub there : (m : ℕ) → g.live m ≡ true → (n : ℕ) × Is k m n × (h.live n ≡ true)
  pub here : (m n : ℕ) → Is k m n → h.live n ≡ true → g.live m ≡ true
  pub to : (m n m' : ℕ) → Is k m n → g.live m ≡ true → 0 < g.uses m m' → (q : ℕ) × (0 < h.uses n q) × Refers k m' q
  pub from : (m n q : ℕ) → Is k m n → h.live n ≡ true → 0 < h.uses n q → Covers k (λ m'. 0 < g.uses m m') q
  pub parts : (q m s l : ℕ) → k.fact q ≡ Some (Part m s l) → h.live q ≡ true → (n : ℕ) × Is k m n × (0 < h.uses q n)
  pub parts_only : (q m s l r : ℕ) → k.fact q ≡ Some (Part m s l) → h.live q ≡ true → 0 < h.uses q r → Is k m r
  pub strings : (q r : ℕ) (text : List ℕ) → k.fact q ≡ Some (Chars text) → h.live q ≡ true → 0 < h.uses q r → ⊥
  pub carriers : (q r : ℕ) (b : B) → k.fact q ≡ Some (Carrier b) → h.live q ≡ true → 0 < h.uses q r → Inner k r → ⊥
  pub frees : (q r : ℕ) → Free k q → Free k r → h.live q ≡ true → 0 < h.uses q r → q < r
  pub closed : IsClosed h

-- A way from a word to a block, through inner blocks.
pub data Chain {B F : Type 0} (k : Facts B F) (h : Graph) (words : ℕ → ℕ) : ℕ → Type 0 where
  word : {q : ℕ} → 0 < words q → Chain k h words q
  next : {a q : ℕ} → Chain k h words a → Inner k a → h.live a ≡ true → 0 < h.uses a q → Chain k h words q

-- What one holder (a process, a table) or all together refer to: these heap values in the source, these blocks in the machine.
-- `own` counts the words of the holder and of the inner blocks that it holds; each block that one of these refers to is there. Source
-- names are compared as sets: two names of one value need no two words.
pub record SameRoots {B F : Type 0} (k : Facts B F) (h : Graph) (names words : ℕ → ℕ) : Type 0 where
  pub own : ℕ → ℕ
  pub roots : (q : ℕ) → 0 < words q → 0 < own q
  pub live : (q : ℕ) → 0 < own q → h.live q ≡ true
  pub way : (q : ℕ) → 0 < own q → Chain k h words q
  pub within : (q r : ℕ) → 0 < own q → Inner k q → 0 < h.uses q r → 0 < own r
  pub covers : (q : ℕ) → 0 < own q → Inner k q ⊎ Covers k (λ m. 0 < names m) q
  pub to : (m : ℕ) → 0 < names m → (q : ℕ) × (0 < own q) × Refers k m q

-- What these processes refer to: of free blocks, only such as they made.
pub record Holds {B F : Type 0} (k : Facts B F) (who : ℕ → Type 0) (h : Graph) (names words : ℕ → ℕ) : Type 0 where
  pub same : SameRoots k h names words
  pub mine : (q : ℕ) → 0 < same.own q → Free k q → (j : ℕ) × who j × (k.maker q ≡ Some j)

-- What a step of these processes leaves alone: nothing goes before the cut, of free blocks only their own change, and no carrier does.
pub record LeavesAlone {B F : Type 0} (these : ℕ → Type 0) (k k' : Facts B F) (h h' : Graph) : Type 0 where
  pub grows : Grows k k'
  pub live : (q : ℕ) → h.live q ≡ true → h'.live q ≡ true
  pub free : (q j : ℕ) → Free k q → k.maker q ≡ Some j → (these j → ⊥) → Free k' q × ((r : ℕ) → h'.uses q r ≡ h.uses q r)
  pub carriers : (q : ℕ) (b : B) → k.fact q ≡ Some (Carrier b) → (r : ℕ) → h'.uses q r ≡ h.uses q r

-- It went, where this part of the heap stays.
abbrev pub WentFrom : Graph → (ℕ → Bool) → ℕ → Type 0
WentFrom g part n = (g.live n ≡ true) × (part n ≡ false)

-- Of the one heap these go and of the other those, and the values that go are the blocks that do.
pub record SameGone {B F : Type 0} (k : Facts B F) (g h : Graph) (sources blocks : ℕ → Bool) : Type 0 where
  pub to : (m : ℕ) → WentFrom g sources m → (n : ℕ) × Is k m n × WentFrom h blocks n
  pub from : (m n : ℕ) → Is k m n → WentFrom h blocks n → WentFrom g sources m

-- After both cuts the heaps stand alike, what was held is held, and the same went.
pub record Settles {B F : Type 0} (k : Facts B F) (g h : Graph) (names words : ℕ → ℕ) (sources blocks : ℕ → Bool) : Type 0 where
  pub heaps : SameHeaps k (only g sources) (only h blocks)
  pub roots : SameRoots k (only h blocks) names words
  pub gone : SameGone k g h sources blocks
