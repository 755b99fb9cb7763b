-- Where variables stand: apart, and within the bytes that they take.
use Rattle.std.proofs.Common.{◌≡◌, ℕ, zero, suc, ◌+◌, ◌<◌, ◌≤◌, List, [], ◌∷◌, Option, Some, None, refl, ap, subst, arith, inl, inr}
use Rattle.std.specs.Prelude.{◌⊎◌, slice_get}
use Rattle.limbo_values.specs.declared.number.Kind.{Kind}
use Rattle.limbo_values.specs.declared.number.Kind.TheVariants.{Byte, Int, Big}
use Rattle.slot_code.specs.Layout.{number_size, size_of, place_for, place_in, end_of}

pub size_least : (k : Kind) → 1 ≤ number_size k
size_least Byte = omega arith
size_least Int = omega arith
size_least Big = omega arith

pub for_least : (k : Option Kind) (from : ℕ) → from ≤ place_for k from
for_least None from = omega arith
for_least (Some Byte) from = omega arith
for_least (Some Int) from = omega arith
for_least (Some Big) from = omega arith

pub in_least : (from : ℕ) (ks : List (Option Kind)) (n : ℕ) → from ≤ place_in from ks n
in_least from [] n = omega arith
in_least from (k ∷ ks) zero = for_least k from
in_least from (k ∷ ks) (suc n) = omega (arith, for_least k from, in_least (place_for k from + size_of k) ks n)

pub end_least : (from : ℕ) (ks : List (Option Kind)) → from ≤ end_of from ks
end_least from [] = omega arith
end_least from (k ∷ ks) = omega (arith, for_least k from, end_least (place_for k from + size_of k) ks)

pub within_end : (from : ℕ) (ks : List (Option Kind)) (n : ℕ) (k : Option Kind) → slice_get ks n ≡ Some k
    → place_in from ks n + size_of k ≤ end_of from ks
within_end from [] n k e = absurd cc
within_end from (j ∷ ks) zero k e =
    let same : j ≡ k = cc in
    subst (λ i. place_for j from + size_of i ≤ end_of (place_for j from + size_of j) ks) same (end_least (place_for j from + size_of j) ks)
within_end from (j ∷ ks) (suc n) k e = within_end (place_for j from + size_of j) ks n k e

pub apart_in : (from : ℕ) (ks : List (Option Kind)) (x y : ℕ) (k : Option Kind) → slice_get ks x ≡ Some k → x < y
    → place_in from ks x + size_of k ≤ place_in from ks y
apart_in from [] x y k e l = absurd cc
apart_in from (j ∷ ks) x zero k e l = absurd (omega (arith, l))
apart_in from (j ∷ ks) zero (suc y) k e l =
    let same : j ≡ k = cc in
    subst (λ i. place_for j from + size_of i ≤ place_in (place_for j from + size_of j) ks y) same
    (in_least (place_for j from + size_of j) ks y)
apart_in from (j ∷ ks) (suc x) (suc y) k e l = apart_in (place_for j from + size_of j) ks x y k e (omega (arith, l))

-- One comes before the other.
pub which : (x y : ℕ) → (x ≡ y) ⊎ ((x < y) ⊎ (y < x))
which zero zero = inl refl
which zero (suc y) = inr (inl (omega arith))
which (suc x) zero = inr (inr (omega arith))
which (suc x) (suc y) = go (which x y)
  where
    go : (x ≡ y) ⊎ ((x < y) ⊎ (y < x)) → (suc x ≡ suc y) ⊎ ((suc x < suc y) ⊎ (suc y < suc x))
    go (inl e) = inl (ap suc e)
    go (inr (inl l)) = inr (inl (omega (arith, l)))
    go (inr (inr l)) = inr (inr (omega (arith, l)))
