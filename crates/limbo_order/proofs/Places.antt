-- Places in lists.
use Rattle.std.proofs.Common.{◌≡◌, ℕ, zero, suc, ◌+◌, ◌<◌, ◌⊎◌, inl, inr, Bool, true, false, List, [], ◌∷◌, ◌++◌, length, get_or, replicate, Some, refl, sym, ap, arith}
use Rattle.std.specs.Global.{Global}
use Rattle.std.specs.Prelude.{Vec}
use Rattle.std.proofs.Math.ListN.{set}
use Rattle.limbo_order.specs.Order.{StandsAt, Needs}
use Rattle.limbo_order.specs.View.{rows}
use Rattle.limbo_order.specs.Searching.{unmarked}

pub here : {A : Type 0} → (xs : List A) (i : ℕ) (x : A) → i < length xs → x ≡ get_or xs i x → StandsAt xs i x
here [] i x l e = absurd (omega arith)
here (y ∷ ys) zero x l e = ap Some (sym e)
here (y ∷ ys) (suc i) x l e = here ys i x (omega arith) e

-- something stands at each place of a list
pub filled : {A : Type 0} → (xs : List A) (i : ℕ) → i < length xs → (x : A) × StandsAt xs i x
filled [] i l = absurd (omega arith)
filled (y ∷ ys) zero l = (y, refl)
filled (y ∷ ys) (suc i) l = filled ys i (omega arith)

pub row_here : (vs : List (Vec ℕ Global)) (i : ℕ) (v : Vec ℕ Global) → i < length vs → v ≡ get_or vs i v → StandsAt (rows vs) i v.items
row_here [] i v l e = absurd (omega arith)
row_here (w ∷ vs) zero v l e = ap (λ z. Some z.items) (sym e)
row_here (w ∷ vs) (suc i) v l e = row_here vs i v (omega arith) e

pub row_needs : (vs : List (Vec ℕ Global)) (i : ℕ) (v : Vec ℕ Global) (k m : ℕ) → i < length vs → v ≡ get_or vs i v → StandsAt v.items k m → Needs (rows vs) i m
row_needs vs i v k m l e h = record { row = v.items; own = row_here vs i v l e; place = k; there = h }

pub rows-length : (vs : List (Vec ℕ Global)) → length (rows vs) ≡ length vs
rows-length [] = refl
rows-length (v ∷ vs) = let e = rows-length vs in omega arith

pub same_there : {A : Type 0} → (xs : List A) (i : ℕ) (x y : A) → StandsAt xs i x → StandsAt xs i y → x ≡ y
same_there xs i x y a b = cc

-- ---- one more at the end

pub stands_left : {A : Type 0} → (xs ys : List A) (i : ℕ) (x : A) → StandsAt xs i x → StandsAt (xs ++ ys) i x
stands_left [] ys i x h = absurd cc
stands_left (z ∷ xs) ys zero x h = h
stands_left (z ∷ xs) ys (suc i) x h = stands_left xs ys i x h

pub stands_last : {A : Type 0} → (xs : List A) (x : A) → StandsAt (xs ++ (x ∷ [])) (length xs) x
stands_last [] x = refl
stands_last (z ∷ xs) x = stands_last xs x

pub stands_push : {A : Type 0} → (xs : List A) (y : A) (i : ℕ) (x : A) → StandsAt (xs ++ (y ∷ [])) i x → StandsAt xs i x ⊎ ((i ≡ length xs) × (y ≡ x))
stands_push [] y zero x h = let e : y ≡ x = cc in inr (refl, e)
stands_push [] y (suc i) x h = absurd cc
stands_push (z ∷ xs) y zero x h = inl h
stands_push (z ∷ xs) y (suc i) x h = elim (stands_push xs y i x h) [
  | inl a ↦ inl a
  | inr q ↦ inr (ap suc q.0, q.1)
]

-- ---- a place written

pub set_same : (ms : List Bool) (a : ℕ) → a < length ms → StandsAt (set ms a true) a true
set_same [] a h = absurd (omega arith)
set_same (m ∷ ms) zero h = refl
set_same (m ∷ ms) (suc a) h = set_same ms a (omega arith)

pub set_there : (xs : List ℕ) (a x : ℕ) → a < length xs → StandsAt (set xs a x) a x
set_there [] a x h = absurd (omega arith)
set_there (y ∷ xs) zero x h = refl
set_there (y ∷ xs) (suc a) x h = set_there xs a x (omega arith)

pub set_keeps : (ms : List Bool) (a k : ℕ) → StandsAt ms k true → StandsAt (set ms a true) k true
set_keeps [] a k h = absurd cc
set_keeps (m ∷ ms) zero zero h = refl
set_keeps (m ∷ ms) zero (suc k) h = h
set_keeps (m ∷ ms) (suc a) zero h = h
set_keeps (m ∷ ms) (suc a) (suc k) h = set_keeps ms a k h

pub set_cases : {A : Type 0} → (xs : List A) (a k : ℕ) (v x : A) → StandsAt (set xs a v) k x → StandsAt xs k x ⊎ ((k ≡ a) × (v ≡ x))
set_cases [] a k v x h = absurd cc
set_cases (m ∷ ms) zero zero v x h = let e : v ≡ x = cc in inr (refl, e)
set_cases (m ∷ ms) zero (suc k) v x h = inl h
set_cases (m ∷ ms) (suc a) zero v x h = inl h
set_cases (m ∷ ms) (suc a) (suc k) v x h = elim (set_cases ms a k v x h) [
  | inl e ↦ inl e
  | inr e ↦ inr (ap suc e.0, e.1)
]

pub set_count : (ms : List Bool) (a : ℕ) → StandsAt ms a false → unmarked (set ms a true) + 1 ≡ unmarked ms
set_count [] a h = absurd cc
set_count (m ∷ ms) zero h = let e : m ≡ false = cc in rw e (omega arith)
set_count (m ∷ ms) (suc a) h = let r = set_count ms a h in omega arith

pub alike_there : {A : Type 0} → (n k : ℕ) (v x : A) → StandsAt (replicate n v) k x → v ≡ x
alike_there zero k v x h = absurd cc
alike_there (suc n) zero v x h = cc
alike_there (suc n) (suc k) v x h = alike_there n k v x h
