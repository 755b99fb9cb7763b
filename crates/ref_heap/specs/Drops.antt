-- What a drop leaves, and the numbers that it lists.
use Rattle.std.specs.Prelude.{◌≡◌, ℕ, ◌+◌, ◌-◌, ◌<◌, Bool, cond, Option, Some, None}
use Rattle.std.specs.List.{count_by}
use Rattle.std.specs.List.Sorted.{IsSorted}
use Rattle.std.specs.Ordering.{nat_cmp}
use Rattle.ref_heap.specs.Kinds.{fd_number}
use Rattle.ref_heap.specs.Store.{Block, Blocks, Store, at, limit, outside, count, names, sum_below, one, with_new}

-- The same block but for its count.
abbrev pub IsSameBut : Option Block → Option Block → Type 0
IsSameBut None b = Unit {0}
IsSameBut (Some a) None = ⊥
IsSameBut (Some a) (Some b) = (a.content ≡ b.content) × (a.kind ≡ b.kind)

-- Each block of m is one of h, with the same words; its count may differ.
abbrev pub IsPart : Blocks → Blocks → Type 0
IsPart m h = (s : ℕ) → IsSameBut (m s) (h s)

-- Each count is the number of references to the block, those held outside and those in blocks, and is not 0.
pub record Settled (limit : ℕ) (outside : ℕ → ℕ) (m : Blocks) : Type 0 where
  pub exact : (n : ℕ) → count m n ≡ outside n + names limit m n
  pub counted : (n : ℕ) → (b : Block) → m n ≡ Some b → 0 < b.count

-- `after` is the greatest part of `before` that is settled. There is one, also where blocks name each other in a circle.
pub record Freed (limit : ℕ) (outside : ℕ → ℕ) (before after : Blocks) : Type 0 where
  pub part : IsPart after before
  pub settled : Settled limit outside after
  pub greatest : (m : Blocks) → IsPart m before → Settled limit outside m → IsPart m after

-- References are given away: what stays is the greatest part that is settled with what is still held outside. So what goes is what only
-- these references kept.
abbrev pub Drops : Store → Store → (ℕ → ℕ) → Type 0
Drops before after given = Freed (limit before) (λ n. outside before n - given n) (at before) (at after)

abbrev pub number_in : Option Block → Option ℕ
number_in None = None
number_in (Some b) = fd_number b.kind

abbrev pub tells : (ℕ → Bool) → Option ℕ → ℕ
tells p None = 0
tells p (Some v) = cond (p v) 1 0

-- How many blocks of serials below the limit are for an open file whose number passes p.
abbrev pub numbered : ℕ → (ℕ → Bool) → Blocks → ℕ
numbered limit p m = sum_below limit (λ s. tells p (number_in (m s)))

-- The numbers of the blocks that went, each as often as it went, rising.
pub record Lists (before after : Store) : Type 0 where
  pub sorted : IsSorted nat_cmp after.lost
  pub each : (p : ℕ → Bool) → count_by p after.lost + numbered (limit before) p (at after) ≡ numbered (limit before) p (at before)

-- A reference to block k is dropped, and then block b is made.
pub record Reuses (before after : Store) (k : ℕ) (b : Block) : Type 0 where
  pub middle : Store
  pub drops : Drops before middle (one k)
  pub lists : Lists before middle
  pub made : middle.made ≡ before.made
  pub makes : after ≡ with_new middle b
