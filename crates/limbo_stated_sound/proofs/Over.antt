-- A list that lies over another, and hides its first items.
use Rattle.std.proofs.Common.{◌≡◌, ◌≤◌, ◌<◌, ℕ, zero, suc, List, [], ◌∷◌, length, get_or, Some, refl, ap, ◌∙◌, arith}
use Rattle.std.specs.Prelude.{slice_get}
use Rattle.std.specs.Option.{option_or}
use Rattle.std.proofs.lemmas.Option.{slice_get-get_or}
use Rattle.limbo_typed.specs.Sound.{Each}
use Rattle.limbo_typed_sound.specs.Describing.{Begins}

abbrev pub over : {A : Type 0} → List A → List A → List A
over [] ys = ys
over (x ∷ xs) [] = x ∷ over xs []
over (x ∷ xs) (y ∷ ys) = x ∷ over xs ys

pub over_at : {A : Type 0} (xs ys : List A) (n : ℕ) → slice_get (over xs ys) n ≡ option_or (slice_get xs n) (slice_get ys n)
over_at [] ys n = refl
over_at (x ∷ xs) [] zero = refl
over_at (x ∷ xs) [] (suc n) = over_at xs [] n
over_at (x ∷ xs) (y ∷ ys) zero = refl
over_at (x ∷ xs) (y ∷ ys) (suc n) = over_at xs ys n

pub over_begins : {A : Type 0} (xs ys : List A) → Begins xs (over xs ys)
over_begins xs ys n x e = over_at xs ys n ∙ ap (λ o. option_or o (slice_get ys n)) e

pub each_over : {A : Type 0} (P : A → Type 0) (xs ys : List A) → Each P xs → Each P ys → Each P (over xs ys)
each_over P [] ys h k = k
each_over P (x ∷ xs) [] h k = (h.0, each_over P xs [] h.1 k)
each_over P (x ∷ xs) (y ∷ ys) h k = (h.0, each_over P xs ys h.1 k.1)

pub at_least : {A : Type 0} (xs ys : List A) → length ys ≤ length (over xs ys)
at_least [] ys = omega arith
at_least (x ∷ xs) [] = omega arith
at_least (x ∷ xs) (y ∷ ys) = let h = at_least xs ys in omega arith

pub at_most : {A : Type 0} (xs ys : List A) → length xs ≤ length ys → length (over xs ys) ≤ length ys
at_most [] ys h = omega arith
at_most (x ∷ xs) [] h = absurd (omega arith)
at_most (x ∷ xs) (y ∷ ys) h = let k = at_most xs ys (omega arith) in omega arith

-- a list each item of which has a number below this one
pub numbered_below : {A : Type 0} (xs : List A) (k : ℕ) → ((n : ℕ) (x : A) → slice_get xs n ≡ Some x → n < k) → length xs ≤ k
numbered_below [] k f = omega arith
numbered_below (x ∷ xs) zero f = let h = f 0 x refl in absurd (omega arith)
numbered_below (x ∷ xs) (suc k) f = let h = numbered_below xs k (λ n y e. let l = f (suc n) y e in omega arith) in omega arith

-- an item of a number below the length
pub item_at : {A : Type 0} (xs : List A) (n : ℕ) → n < length xs → (x : A) × (slice_get xs n ≡ Some x)
item_at [] n l = absurd (omega arith)
item_at (x ∷ xs) n l = (get_or (x ∷ xs) n x, slice_get-get_or (x ∷ xs) n x l)
