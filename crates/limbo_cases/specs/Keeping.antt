-- What is known while the labels of a list are gone through: those that some value fits are held in a map, each at its low end.
use Rattle.std.specs.Prelude.{◌≡◌, ℕ, ◌+◌, ◌<◌, List, Option, Some, None}
use Rattle.std.specs.Borrow.{Bor}
use Rattle.std.specs.BTreeMap.{BTreeMap, get}
use Rattle.std.specs.declared.cmp.Ordering.{Ordering}
use Rattle.std.specs.declared.cmp.Ordering.TheVariants.{Less, Equal}
use Rattle.limbo_cases.specs.declared.label.Label.{Label}
use Rattle.limbo_cases.specs.declared.overlapping.Kept.{Kept}
use Rattle.limbo_cases.specs.Labels.{StandsAt, AtMost, OverlapsAt}

-- Some value fits the label.
abbrev pub IsFilled : {A : Type 0} → (A → A → Ordering) → Label A → Type 0
IsFilled order label = AtMost order label.low label.high

-- What a map of the code has at an end, whose reference is its key.
abbrev pub by_end : {A : Type 0} → (A → A → Ordering) → Bor A → Bor A → Ordering
by_end order x y = order x.now y.now

abbrev pub held : {A : Type 0} → (A → A → Ordering) → BTreeMap (Bor A) (Kept A) → Bor A → Option (Kept A)
held order m q = get (by_end order) m q

-- Each label is held at its low end, is filled, and ends before the next begins.
pub record InOrder {A : Type 0} (order : A → A → Ordering) (at : Bor A → Option (Kept A)) : Type 0 where
  pub own : (q : Bor A) (k : Kept A) → at q ≡ Some k → order q.now k.label.now.low ≡ Equal
  pub filled : (q : Bor A) (k : Kept A) → at q ≡ Some k → IsFilled order k.label.now
  pub apart : (p q : Bor A) (k m : Kept A) → at p ≡ Some k → at q ≡ Some m → order p.now q.now ≡ Less
      → order k.label.now.high m.label.now.low ≡ Less

-- Of the first n labels exactly the filled ones are kept, each with its number.
pub record IsKept {A : Type 0} (order : A → A → Ordering) (labels : List (Label A)) (n : ℕ) (at : Bor A → Option (Kept A)) : Type 0 where
  pub ordered : InOrder order at
  pub there : (q : Bor A) (k : Kept A) → at q ≡ Some k → (k.number < n) × StandsAt labels k.number k.label.now
  pub whole : (i : ℕ) (a : Label A) → i < n → StandsAt labels i a → IsFilled order a
      → (q : Bor A) × (k : Kept A) × (at q ≡ Some k) × (k.number ≡ i)

-- What comes of label n: it is among the kept now, unless no value fits it; or it overlaps one before it.
abbrev pub Keeps : {A : Type 0} → (A → A → Ordering) → List (Label A) → ℕ → (Bor A → Option (Kept A)) → Option ℕ → Type 0
Keeps order labels n at None = IsKept order labels (n + 1) at
Keeps order labels n at (Some earlier) = OverlapsAt (AtMost order) labels earlier n

-- Of the labels that are held at a value or before it, this one is held last.
pub record IsLast {A : Type 0} (order : A → A → Ordering) (at : Bor A → Option (Kept A)) (high : A) (k : Kept A) : Type 0 where
  pub place : Bor A
  pub there : at place ≡ Some k
  pub begun : AtMost order place.now high
  pub last : (q : Bor A) (m : Kept A) → at q ≡ Some m → AtMost order q.now high → AtMost order q.now place.now

abbrev pub IsLastBegun : {A : Type 0} → (A → A → Ordering) → (Bor A → Option (Kept A)) → A → Option (Kept A) → Type 0
IsLastBegun {A} order at high None = (q : Bor A) → AtMost order q.now high → at q ≡ None
IsLastBegun {A} order at high (Some k) = IsLast order at high k
