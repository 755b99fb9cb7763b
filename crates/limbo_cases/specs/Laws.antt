-- What holds of labels.
use Rattle.std.specs.Prelude.{◌≡◌, ℕ, ◌↔◌, List}
use Rattle.std.specs.Ordering.{ord_max, ord_min}
use Rattle.std.specs.declared.cmp.Ordering.{Ordering}
use Rattle.std.specs.declared.cmp.Ordering.TheVariants.{Less}
use Rattle.limbo_cases.specs.declared.label.Label.{Label}
use Rattle.limbo_cases.specs.Labels.{StandsAt, AtMost, Fits, Overlap, Apart, FirstOverlap}

-- Where no two labels overlap, each value fits at most one.
abbrev pub AtMostOne : {A : Type 0} → (A → A → Type 0) → Type 0
AtMostOne {A} at_most =
    (labels : List (Label A)) → Apart at_most labels →
    (value : A) (i j : ℕ) (a b : Label A) → StandsAt labels i a → StandsAt labels j b
    → Fits at_most a value → Fits at_most b value → i ≡ j

-- There is one first label that an earlier one overlaps, and none where labels are apart.
pub record FirstIsOne {A : Type 0} (at_most : A → A → Type 0) : Type 0 where
  pub one : (labels : List (Label A)) (i j m n : ℕ) → FirstOverlap at_most labels i m → FirstOverlap at_most labels j n → m ≡ n
  pub none : (labels : List (Label A)) (i m : ℕ) → Apart at_most labels → FirstOverlap at_most labels i m → ⊥

-- Two labels overlap exactly where the greater of their low ends is at most the lesser of their high ends.
abbrev pub EndsDecide : {A : Type 0} → (A → A → Ordering) → Type 0
EndsDecide {A} order =
    (a b : Label A) → Overlap (AtMost order) a b ↔ AtMost order (ord_max order a.low b.low) (ord_min order a.high b.high)

-- No value fits a label whose low end is above its high one, and so it overlaps none.
abbrev pub EmptyFitsNothing : {A : Type 0} → (A → A → Ordering) → Type 0
EmptyFitsNothing {A} order = (a : Label A) (value : A) → order a.high a.low ≡ Less → Fits (AtMost order) a value → ⊥
