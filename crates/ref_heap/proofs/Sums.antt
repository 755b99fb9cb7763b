-- Sums below a limit.
use Rattle.std.proofs.Common.{◌≡◌, ◌≢◌, ℕ, zero, suc, ◌+◌, ◌<◌, ◌≤◌, refl, ap, arith, inl, inr}
use Rattle.std.proofs.lemmas.Bool.Decides.{eqb_tells}
use Rattle.ref_heap.specs.Store.{sum_below}

pub sum_same : (limit : ℕ) (f g : ℕ → ℕ) → ((s : ℕ) → f s ≡ g s) → sum_below limit f ≡ sum_below limit g
sum_same zero f g e = refl
sum_same (suc n) f g e = omega (arith, e n, sum_same n f g e)

pub sum_le : (limit : ℕ) (f g : ℕ → ℕ) → ((s : ℕ) → f s ≤ g s) → sum_below limit f ≤ sum_below limit g
sum_le zero f g e = omega arith
sum_le (suc n) f g e = omega (arith, e n, sum_le n f g e)

-- the same at all places below the limit, but for one
pub sum_same_below : (limit : ℕ) (f g : ℕ → ℕ) → ((s : ℕ) → s < limit → f s ≡ g s) → sum_below limit f ≡ sum_below limit g
sum_same_below zero f g e = refl
sum_same_below (suc n) f g e = omega (arith, e n (omega arith), sum_same_below n f g (λ s l. e s (omega arith)))

pub sum_changed : (limit : ℕ) (f g : ℕ → ℕ) (k : ℕ) → k < limit → ((s : ℕ) → s ≢ k → f s ≡ g s) → sum_below limit f + g k ≡ sum_below limit g + f k
sum_changed zero f g k l e = omega arith
sum_changed (suc n) f g k l e =
    elim (eqb_tells n k) [
      | inl y ↦
          let same : sum_below n f ≡ sum_below n g = sum_same_below n f g (λ s h. e s (omega (arith, y.1))) in
          let a : f n ≡ f k = ap f y.1 in
          let b : g n ≡ g k = ap g y.1 in
          omega arith
      | inr y ↦
          let ih : sum_below n f + g k ≡ sum_below n g + f k = sum_changed n f g k (omega (arith, y.1)) e in
          let here : f n ≡ g n = e n y.1 in
          omega arith
    ]

pub sum_has : (limit : ℕ) (f : ℕ → ℕ) (k : ℕ) → k < limit → f k ≤ sum_below limit f
sum_has zero f k l = absurd (omega arith)
sum_has (suc n) f k l =
    elim (eqb_tells n k) [
      | inl y ↦ let a : f n ≡ f k = ap f y.1 in omega arith
      | inr y ↦ let a : f k ≤ sum_below n f = sum_has n f k (omega (arith, y.1)) in omega arith
    ]
