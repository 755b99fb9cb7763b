-- Places in lists.
use Rattle.std.proofs.Common.{◌≡◌, ◌<◌, ◌+◌, ◌⊎◌, inl, inr, ℕ, zero, suc, List}
use Rattle.std.proofs.Common.{[], ◌∷◌, ◌++◌, length, map, Some, refl, sym, ap, subst, arith}
use Rattle.std.specs.Prelude.{slice_get, slice_index_or}
use Rattle.std.specs.List.{Contains}
use Rattle.std.proofs.lemmas.Option.{none-some, same_Some, slice_get_within, get_or_from_slice_get, slice_get_read}

pub at_left : {A : Type 0} (xs ys : List A) (k : ℕ) (x : A) → slice_get xs k ≡ Some x → slice_get (xs ++ ys) k ≡ Some x
at_left [] ys k x h = absurd (none-some x h)
at_left (y ∷ xs) ys zero x h = h
at_left (y ∷ xs) ys (suc k) x h = at_left xs ys k x h

pub at_right :
    {A : Type 0} (xs ys : List A) (k n : ℕ) (x : A) → n ≡ length xs + k → slice_get ys k ≡ Some x → slice_get (xs ++ ys) n ≡ Some x
at_right [] ys k n x e h = let s : k ≡ n = omega arith in subst (λ (z : ℕ). slice_get ys z ≡ Some x) s h
at_right (y ∷ xs) ys k zero x e h = absurd (omega arith)
at_right (y ∷ xs) ys k (suc n) x e h = at_right xs ys k n x (omega arith) h

pub at_cases :
    {A : Type 0} (xs ys : List A) (n : ℕ) (x : A) → slice_get (xs ++ ys) n ≡ Some x
    → (slice_get xs n ≡ Some x) ⊎ ((k : ℕ) × (n ≡ length xs + k) × (slice_get ys k ≡ Some x))
at_cases [] ys n x h = inr (n, omega arith, h)
at_cases (y ∷ xs) ys zero x h = inl h
at_cases (y ∷ xs) ys (suc n) x h = elim (at_cases xs ys n x h) [
  | inl i ↦ inl i
  | inr i ↦ inr (i.0, (let e = i.1 in omega arith), i.2)
]

pub single : {A : Type 0} (x : A) (k : ℕ) (y : A) → slice_get (x ∷ []) k ≡ Some y → (k ≡ 0) × (x ≡ y)
single x zero y h = (refl, same_Some x y h)
single x (suc k) y h = absurd (none-some y h)

pub mapped : {A B : Type 0} (f : A → B) (xs : List A) (k : ℕ) (x : A) → slice_get xs k ≡ Some x → slice_get (map f xs) k ≡ Some (f x)
mapped f [] k x h = absurd (none-some x h)
mapped f (y ∷ xs) zero x h = ap (λ z. Some (f z)) (same_Some y x h)
mapped f (y ∷ xs) (suc k) x h = mapped f xs k x h

pub from_mapped :
    {A B : Type 0} (f : A → B) (xs : List A) (k : ℕ) (y : B) → slice_get (map f xs) k ≡ Some y
    → (x : A) × (slice_get xs k ≡ Some x) × (f x ≡ y)
from_mapped f [] k y h = absurd (none-some y h)
from_mapped f (x ∷ xs) zero y h = (x, refl, same_Some (f x) y h)
from_mapped f (x ∷ xs) (suc k) y h = from_mapped f xs k y h

pub contained : {A : Type 0} (xs : List A) (k : ℕ) (x : A) → slice_get xs k ≡ Some x → Contains xs x
contained xs k x h = (k, slice_get_within xs k x h, get_or_from_slice_get xs k x x h)

pub place_of : {A : Type 0} (xs : List A) (x : A) → Contains xs x → (k : ℕ) × (slice_get xs k ≡ Some x)
place_of xs x c = (c.0, slice_get_read xs (length xs) c.0 x refl c.1 (sym c.2))

pub read_at : {A : Type 0} (xs : List A) (k : ℕ) (x : A) → k < length xs → x ≡ slice_index_or xs k x → slice_get xs k ≡ Some x
read_at xs k x l e = slice_get_read xs (length xs) k x refl l e

pub place_at : {A : Type 0} (xs : List A) (k : ℕ) → k < length xs → (x : A) × (slice_get xs k ≡ Some x)
place_at [] k l = absurd (omega arith)
place_at (x ∷ xs) zero l = (x, refl)
place_at (x ∷ xs) (suc k) l = place_at xs k (omega arith)
