-- Lists one behind the other, and an element of a list with what is in front of it.
use Rattle.std.proofs.Common.{◌≡◌, ℕ, zero, suc, ◌+◌, ◌<◌, List, [], ◌∷◌, ◌++◌, length, take, drop, map, Some, inl, inr, refl, ap, ◌∙◌}
use Rattle.std.proofs.Common.{arith}
use Rattle.std.specs.Prelude.{slice_get}
use Rattle.limbo_layout.specs.Adts.{Has}

pub get_more : {A : Type 0} (xs ys : List A) (n : ℕ) (a : A) → slice_get xs n ≡ Some a → slice_get (xs ++ ys) n ≡ Some a
get_more [] ys n a e = absurd cc
get_more (x ∷ xs) ys zero a e = e
get_more (x ∷ xs) ys (suc n) a e = get_more xs ys n a e

pub get_behind : {A : Type 0} (xs ys : List A) (n m : ℕ) (a : A) → m ≡ length xs + n → slice_get ys n ≡ Some a → slice_get (xs ++ ys) m ≡ Some a
get_behind [] ys n m a q e = let same : m ≡ n = omega arith in ap (slice_get ys) same ∙ e
get_behind (x ∷ xs) ys n zero a q e = absurd (omega arith)
get_behind (x ∷ xs) ys n (suc m) a q e = get_behind xs ys n m a (omega arith) e

pub get_map : {A B : Type 0} (f : A → B) (xs : List A) (n : ℕ) (a : A) → slice_get xs n ≡ Some a → slice_get (map f xs) n ≡ Some (f a)
get_map f [] n a e = absurd cc
get_map f (x ∷ xs) zero a e = let same : x ≡ a = cc in ap (λ a. Some (f a)) same
get_map f (x ∷ xs) (suc n) a e = get_map f xs n a e

pub get_within : {A : Type 0} (xs : List A) (n : ℕ) (a : A) → slice_get xs n ≡ Some a → n < length xs
get_within [] n a e = absurd cc
get_within (x ∷ xs) zero a e = omega arith
get_within (x ∷ xs) (suc n) a e = let l = get_within xs n a e in omega (arith, l)

-- an element, behind those in front
pub split_at : {A : Type 0} (xs : List A) (n : ℕ) (a : A) → slice_get xs n ≡ Some a → xs ≡ take n xs ++ a ∷ drop (suc n) xs
split_at [] n a e = absurd cc
split_at (x ∷ xs) zero a e = let same : x ≡ a = cc in ap (λ a. a ∷ xs) same
split_at (x ∷ xs) (suc n) a e = ap (λ l. x ∷ l) (split_at xs n a e)

pub long_front : {A : Type 0} (xs : List A) (n : ℕ) (a : A) → slice_get xs n ≡ Some a → length (take n xs) ≡ n
long_front [] n a e = absurd cc
long_front (x ∷ xs) zero a e = refl
long_front (x ∷ xs) (suc n) a e = ap suc (long_front xs n a e)

pub get_front : {A : Type 0} (xs : List A) (n k : ℕ) → k < length (take n xs) → slice_get xs k ≡ slice_get (take n xs) k
get_front [] zero k l = absurd (omega arith)
get_front [] (suc n) k l = absurd (omega arith)
get_front (x ∷ xs) zero k l = absurd (omega arith)
get_front (x ∷ xs) (suc n) zero l = refl
get_front (x ∷ xs) (suc n) (suc k) l = get_front xs n k (omega arith)

pub has_there : {A : Type 0} (xs : List A) (n : ℕ) (a : A) → slice_get xs n ≡ Some a → Has xs a
has_there [] n a e = absurd cc
has_there (x ∷ xs) zero a e = inl cc
has_there (x ∷ xs) (suc n) a e = inr (has_there xs n a e)

pub has_map : {A B : Type 0} (f : A → B) (xs : List A) (a : A) → Has xs a → Has (map f xs) (f a)
has_map f [] a h = absurd h
has_map f (x ∷ xs) a (inl e) = inl (ap f e)
has_map f (x ∷ xs) a (inr h) = inr (has_map f xs a h)
