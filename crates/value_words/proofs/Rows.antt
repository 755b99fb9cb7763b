-- What stands in rows, one behind the other.
use Rattle.std.proofs.Common.{◌≡◌, ℕ, zero, suc, ◌+◌, ◌<◌, ◌⊎◌, List, [], ◌∷◌, ◌++◌, length, map, Some, refl, ap, ◌∙◌}
use Rattle.std.proofs.Common.{arith, inl, inr}
use Rattle.std.specs.Prelude.{slice_get, slice_set}

pub below : {A : Type 0} (xs : List A) (k : ℕ) (x : A) → slice_get xs k ≡ Some x → k < length xs
below [] k x e = absurd cc
below (y ∷ xs) zero x e = omega arith
below (y ∷ xs) (suc k) x e = let l = below xs k x e in omega arith

pub is_there : {A : Type 0} (xs : List A) (k : ℕ) → k < length xs → (x : A) × (slice_get xs k ≡ Some x)
is_there [] k l = absurd (omega arith)
is_there (y ∷ xs) zero l = (y, refl)
is_there (y ∷ xs) (suc k) l = is_there xs k (omega arith)

pub in_front : {A : Type 0} (xs ys : List A) (k : ℕ) (x : A) → slice_get xs k ≡ Some x → slice_get (xs ++ ys) k ≡ Some x
in_front [] ys k x e = absurd cc
in_front (y ∷ xs) ys zero x e = e
in_front (y ∷ xs) ys (suc k) x e = in_front xs ys k x e

pub further : {A : Type 0} (xs ys : List A) (j k : ℕ) (x : A) → k ≡ length xs + j → slice_get ys j ≡ Some x
    → slice_get (xs ++ ys) k ≡ Some x
further [] ys j k x l e = let f : k ≡ j = omega arith in ap (slice_get ys) f ∙ e
further (y ∷ xs) ys j zero x l e = absurd (omega arith)
further (y ∷ xs) ys j (suc k) x l e = further xs ys j k x (omega arith) e

-- Behind the first row.
pub record IsFurther {A : Type 0} (xs ys : List A) (k : ℕ) (x : A) : Type 0 where
  pub behind : ℕ
  pub is : k ≡ length xs + behind
  pub at : slice_get ys behind ≡ Some x

pub split : {A : Type 0} (xs ys : List A) (k : ℕ) (x : A) → slice_get (xs ++ ys) k ≡ Some x
    → (slice_get xs k ≡ Some x) ⊎ IsFurther xs ys k x
split [] ys k x e = inr (record { behind = k; is = omega arith; at = e })
split (y ∷ xs) ys zero x e = inl e
split (y ∷ xs) ys (suc k) x e = elim (split xs ys k x e) [
  | inl f ↦ inl f
  | inr f ↦ inr (record { behind = f.behind; is = let g = f.is in omega arith; at = f.at })
]

pub mapped_at : {A B : Type 0} (f : A → B) (xs : List A) (k : ℕ) (y : B) → slice_get (map f xs) k ≡ Some y
    → (x : A) × (slice_get xs k ≡ Some x) × (f x ≡ y)
mapped_at f [] k y e = absurd cc
mapped_at f (x ∷ xs) zero y e = (x, refl, cc)
mapped_at f (x ∷ xs) (suc k) y e = mapped_at f xs k y e

pub map_long : {A B : Type 0} (f : A → B) (xs : List A) → length (map f xs) ≡ length xs
map_long f [] = refl
map_long f (x ∷ xs) = ap suc (map_long f xs)

pub one_only : (k o x : ℕ) → slice_get (x ∷ []) k ≡ Some o → (k ≡ 0) × (x ≡ o)
one_only zero o x e = (refl, cc)
one_only (suc k) o x e = absurd cc

pub set_other : {A : Type 0} (xs : List A) (k j : ℕ) (y : A) → (j ≡ k → ⊥) → slice_get (slice_set xs k y) j ≡ slice_get xs j
set_other [] zero j y ne = refl
set_other [] (suc k) j y ne = refl
set_other (x ∷ xs) zero zero y ne = absurd (ne refl)
set_other (x ∷ xs) zero (suc j) y ne = refl
set_other (x ∷ xs) (suc k) zero y ne = refl
set_other (x ∷ xs) (suc k) (suc j) y ne = set_other xs k j y (λ e. ne (ap suc e))

pub set_same : {A : Type 0} (xs : List A) (k : ℕ) (y old : A) → slice_get xs k ≡ Some old → slice_get (slice_set xs k y) k ≡ Some y
set_same [] k y old e = absurd cc
set_same (x ∷ xs) zero y old e = refl
set_same (x ∷ xs) (suc k) y old e = set_same xs k y old e
