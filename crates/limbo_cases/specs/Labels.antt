-- Labels of a `case` (Limbo Language Reference, case statement): values and ranges of values, by which of two values is at most the
-- other.
use Rattle.std.specs.Prelude.{◌≡◌, ℕ, ◌<◌, List, Option, Some, None, slice_get, IsTrue}
use Rattle.std.specs.Ordering.{is_le}
use Rattle.std.specs.declared.cmp.Ordering.{Ordering}
use Rattle.limbo_cases.specs.declared.label.Label.{Label}

-- Something stands at place i of a list.
abbrev pub StandsAt : {A : Type 0} → List A → ℕ → A → Type 0
StandsAt xs i x = slice_get xs i ≡ Some x

-- What an order says of two values.
abbrev pub AtMost : {A : Type 0} → (A → A → Ordering) → A → A → Type 0
AtMost order x y = IsTrue (is_le (order x y))

-- A value fits a label: it stands from the low end to the high one, both ends included.
pub record Fits {A : Type 0} (at_most : A → A → Type 0) (label : Label A) (value : A) : Type 0 where
  pub low : at_most label.low value
  pub high : at_most value label.high

-- Some value fits both.
pub record Overlap {A : Type 0} (at_most : A → A → Type 0) (a b : Label A) : Type 0 where
  pub value : A
  pub fits : Fits at_most a value
  pub fits_too : Fits at_most b value

-- Labels that overlap stand at two places of a list, the second behind the first.
pub record OverlapsAt {A : Type 0} (at_most : A → A → Type 0) (labels : List (Label A)) (earlier later : ℕ) : Type 0 where
  pub before : earlier < later
  pub label : Label A
  pub stands : StandsAt labels earlier label
  pub other : Label A
  pub stands_later : StandsAt labels later other
  pub overlap : Overlap at_most label other

-- No two of the first n labels overlap.
abbrev pub ApartBefore : {A : Type 0} → (A → A → Type 0) → List (Label A) → ℕ → Type 0
ApartBefore at_most labels n = (earlier later : ℕ) → later < n → OverlapsAt at_most labels earlier later → ⊥

-- No two labels overlap.
abbrev pub Apart : {A : Type 0} → (A → A → Type 0) → List (Label A) → Type 0
Apart at_most labels = (earlier later : ℕ) → OverlapsAt at_most labels earlier later → ⊥

-- The first label that an earlier one overlaps, and such an earlier one.
pub record FirstOverlap {A : Type 0} (at_most : A → A → Type 0) (labels : List (Label A)) (earlier later : ℕ) : Type 0 where
  pub overlaps : OverlapsAt at_most labels earlier later
  pub first : ApartBefore at_most labels later

-- What is found in a list of labels: nothing where they are apart, else the first overlap.
abbrev pub Finds : {A : Type 0} → (A → A → Type 0) → List (Label A) → Option (ℕ × ℕ) → Type 0
Finds at_most labels None = Apart at_most labels
Finds at_most labels (Some pair) = FirstOverlap at_most labels pair.0 pair.1
