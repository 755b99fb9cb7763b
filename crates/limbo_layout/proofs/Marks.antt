-- Marks, and lists of numbers.
use Rattle.std.proofs.Common.{◌≡◌, ◌≢◌, ℕ, zero, suc, ◌+◌, ◌<◌, ◌≤◌, ◌⊎◌, ◌||◌, ◌==◌, inl, inr, Bool, true, false, List, [], ◌∷◌, ◌++◌, length, get_or, replicate, Option, Some, None, refl, sym, ap, subst, ◌∙◌, arith}
use Rattle.std.proofs.Math.ListN.{set}
use Rattle.std.specs.Prelude.{slice_get}
use Rattle.limbo_layout.specs.Adts.{Has}
use Rattle.limbo_layout.specs.Layout.{is_in}
use Rattle.limbo_layout.specs.Paths.{IsAt, unmarked}

pub none_at : (n k : ℕ) → IsAt (replicate n false) k true → ⊥
none_at zero k h = absurd cc
none_at (suc n) zero h = absurd cc
none_at (suc n) (suc k) h = none_at n k h

pub set_same : (ms : List Bool) (a : ℕ) → a < length ms → IsAt (set ms a true) a true
set_same [] a h = absurd (omega arith)
set_same (m ∷ ms) zero h = refl
set_same (m ∷ ms) (suc a) h = set_same ms a (omega arith)

pub set_keeps : (ms : List Bool) (a k : ℕ) → IsAt ms k true → IsAt (set ms a true) k true
set_keeps [] a k h = absurd cc
set_keeps (m ∷ ms) zero zero h = refl
set_keeps (m ∷ ms) zero (suc k) h = h
set_keeps (m ∷ ms) (suc a) zero h = h
set_keeps (m ∷ ms) (suc a) (suc k) h = set_keeps ms a k h

pub set_cases : (ms : List Bool) (a k : ℕ) → IsAt (set ms a true) k true → IsAt ms k true ⊎ (k ≡ a)
set_cases [] a k h = absurd cc
set_cases (m ∷ ms) zero zero h = inr refl
set_cases (m ∷ ms) zero (suc k) h = inl h
set_cases (m ∷ ms) (suc a) zero h = inl h
set_cases (m ∷ ms) (suc a) (suc k) h = elim (set_cases ms a k h) [
  | inl e ↦ inl e
  | inr e ↦ inr (ap suc e)
]

pub set_count : (ms : List Bool) (a : ℕ) → IsAt ms a false → unmarked (set ms a true) + 1 ≡ unmarked ms
set_count [] a h = absurd cc
set_count (m ∷ ms) zero h = let e : m ≡ false = cc in rw e (omega arith)
set_count (m ∷ ms) (suc a) h = let r = set_count ms a h in omega arith

pub is_in-push : (n m : ℕ) (ms : List ℕ) → is_in n (ms ++ (m ∷ [])) ≡ (is_in n ms || (m == n))
is_in-push n m [] = or_false (m == n)
  where
    or_false : (b : Bool) → (b || false) ≡ (false || b)
    or_false true = refl
    or_false false = refl
is_in-push n m (k ∷ ms) = ap (λ b. (k == n) || b) (is_in-push n m ms) ∙ or_assoc (k == n) (is_in n ms) (m == n)
  where
    or_assoc : (a b c : Bool) → (a || (b || c)) ≡ ((a || b) || c)
    or_assoc true b c = refl
    or_assoc false b c = refl
