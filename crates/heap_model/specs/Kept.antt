-- What stays of a heap, by its references alone: the greatest part that is named by roots or by itself. So a value goes with the last
-- reference to it that isn't from what goes too; values that name each other in a ring keep each other.
use Rattle.std.specs.Prelude.{ℕ, ◌≡◌, ◌<◌, ◌⊎◌, Bool, true, false}

-- A heap by its references: which names have a value, and how often the first names the second.
pub record Graph : Type 0 where
  pub live : ℕ → Bool
  pub uses : ℕ → ℕ → ℕ

module _ (g : Graph) (roots : ℕ → ℕ) where
  -- Named by a root, or by one of these.
  abbrev pub Held : (ℕ → Type 0) → ℕ → Type 0
  Held some n = (0 < roots n) ⊎ ((a : ℕ) × some a × (0 < g.uses a n))

  -- The greatest part each of which is there and named by a root or by the part.
  pub record IsKept (part : ℕ → Bool) : Type 1 where
    pub alive : (n : ℕ) → part n ≡ true → g.live n ≡ true
    pub held : (n : ℕ) → part n ≡ true → Held (λ a. part a ≡ true) n
    pub greatest : (some : ℕ → Type 0) → ((n : ℕ) → some n → (g.live n ≡ true) × Held some n) → (n : ℕ) → some n → part n ≡ true

-- A way from one to another along references of values that are there.
pub data Path (g : Graph) (a : ℕ) : ℕ → Type 0 where
  here : Path g a a
  on : {b c : ℕ} → Path g a b → g.live b ≡ true → 0 < g.uses b c → Path g a c

-- Reached from a root.
pub record Reached (g : Graph) (roots : ℕ → ℕ) (n : ℕ) : Type 0 where
  pub root : ℕ
  pub is : 0 < roots root
  pub way : Path g root n

-- No reference names what isn't there.
pub record IsClosed (g : Graph) : Type 0 where
  pub closed : (a b : ℕ) → g.live a ≡ true → 0 < g.uses a b → g.live b ≡ true

abbrev pub times : Bool → ℕ → ℕ
times true n = n
times false n = 0

-- The heap without what isn't in the part.
abbrev pub only : Graph → (ℕ → Bool) → Graph
only g part = record { live = part; uses = λ a b. times (part a) (g.uses a b) }
