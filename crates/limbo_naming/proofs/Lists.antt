-- Places in lists.
use Rattle.std.proofs.Common.{◌≡◌, ℕ, zero, suc, ◌+◌, ◌-◌, ◌<◌, ◌⊎◌, inl, inr, List, [], ◌∷◌, ◌++◌, length, take, get_or, replicate, slice_get, Some, refl, sym, ap, ◌∙◌, arith}
use Rattle.std.proofs.Math.ListN.{set}
use Rattle.std.proofs.lemmas.List.{take_all, take_more, length-append}

pub filled : {A : Type 0} → (xs : List A) (i : ℕ) → i < length xs → (x : A) × (slice_get xs i ≡ Some x)
filled [] i l = absurd (omega arith)
filled (y ∷ ys) zero l = (y, refl)
filled (y ∷ ys) (suc i) l = filled ys i (omega arith)

pub last_apart : (path : List ℕ) (n top : ℕ) → 0 < length path → n ≡ length path → top ≡ get_or path (n - 1) top → path ≡ take (n - 1) path ++ (top ∷ [])
last_apart path n top l f e =
    sym (take_all (n - 1 + 1) path (omega arith)) ∙ take_more path (n - 1) top (omega arith) ∙ ap (λ x. take (n - 1) path ++ (x ∷ [])) (sym e)

pub same_last : (a b : List ℕ) (x y : ℕ) → a ++ (x ∷ []) ≡ b ++ (y ∷ []) → x ≡ y
same_last [] [] x y e = cc
same_last [] (z ∷ b) x y e = let l : 1 ≡ suc (length (b ++ (y ∷ []))) = ap length e in absurd (let k : length (b ++ (y ∷ [])) ≡ length b + 1 = simp length-append refl in omega arith)
same_last (z ∷ a) [] x y e = let l : suc (length (a ++ (x ∷ []))) ≡ 1 = ap length e in absurd (let k : length (a ++ (x ∷ [])) ≡ length a + 1 = simp length-append refl in omega arith)
same_last (z ∷ a) (w ∷ b) x y e = let f : a ++ (x ∷ []) ≡ b ++ (y ∷ []) = cc in same_last a b x y f

-- ---- one more at the end

pub stands_left : {A : Type 0} → (xs ys : List A) (i : ℕ) (x : A) → slice_get xs i ≡ Some x → slice_get (xs ++ ys) i ≡ Some x
stands_left [] ys i x h = absurd cc
stands_left (z ∷ xs) ys zero x h = h
stands_left (z ∷ xs) ys (suc i) x h = stands_left xs ys i x h

pub stands_last : {A : Type 0} → (xs : List A) (x : A) → slice_get (xs ++ (x ∷ [])) (length xs) ≡ Some x
stands_last [] x = refl
stands_last (z ∷ xs) x = stands_last xs x

pub stands_push : {A : Type 0} → (xs : List A) (y : A) (i : ℕ) (x : A) → slice_get (xs ++ (y ∷ [])) i ≡ Some x
    → (slice_get xs i ≡ Some x) ⊎ ((i ≡ length xs) × (y ≡ x))
stands_push [] y zero x h = let e : y ≡ x = cc in inr (refl, e)
stands_push [] y (suc i) x h = absurd cc
stands_push (z ∷ xs) y zero x h = inl h
stands_push (z ∷ xs) y (suc i) x h = elim (stands_push xs y i x h) [
  | inl a ↦ inl a
  | inr q ↦ inr (ap suc q.0, q.1)
]

-- ---- a place written

pub set_there : {A : Type 0} → (xs : List A) (a : ℕ) (x : A) → a < length xs → slice_get (set xs a x) a ≡ Some x
set_there [] a x h = absurd (omega arith)
set_there (y ∷ xs) zero x h = refl
set_there (y ∷ xs) (suc a) x h = set_there xs a x (omega arith)

pub set_other : {A : Type 0} → (xs : List A) (a k : ℕ) (v x : A) → slice_get xs k ≡ Some x → (k ≡ a → ⊥) → slice_get (set xs a v) k ≡ Some x
set_other [] a k v x h n = absurd cc
set_other (m ∷ ms) zero zero v x h n = absurd (n refl)
set_other (m ∷ ms) zero (suc k) v x h n = h
set_other (m ∷ ms) (suc a) zero v x h n = h
set_other (m ∷ ms) (suc a) (suc k) v x h n = set_other ms a k v x h (λ e. n (ap suc e))

pub set_cases : {A : Type 0} → (xs : List A) (a k : ℕ) (v x : A) → slice_get (set xs a v) k ≡ Some x
    → ((slice_get xs k ≡ Some x) × (k ≡ a → ⊥)) ⊎ ((k ≡ a) × (v ≡ x))
set_cases [] a k v x h = absurd cc
set_cases (m ∷ ms) zero zero v x h = let e : v ≡ x = cc in inr (refl, e)
set_cases (m ∷ ms) zero (suc k) v x h = inl (h, λ e. absurd (omega arith))
set_cases (m ∷ ms) (suc a) zero v x h = inl (h, λ e. absurd (omega arith))
set_cases (m ∷ ms) (suc a) (suc k) v x h = elim (set_cases ms a k v x h) [
  | inl e ↦ inl (e.0, λ f. e.1 (omega arith))
  | inr e ↦ inr (ap suc e.0, e.1)
]

pub alike_there : {A : Type 0} → (n k : ℕ) (v x : A) → slice_get (replicate n v) k ≡ Some x → v ≡ x
alike_there zero k v x h = absurd cc
alike_there (suc n) zero v x h = cc
alike_there (suc n) (suc k) v x h = alike_there n k v x h
