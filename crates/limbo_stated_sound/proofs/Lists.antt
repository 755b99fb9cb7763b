-- Lists that begin others.
use Rattle.std.proofs.Common.{◌≡◌, ◌≤◌, ℕ, zero, suc, List, [], ◌∷◌, ◌++◌, length, take, Some, refl, arith}
use Rattle.std.specs.Prelude.{slice_get}
use Rattle.std.proofs.lemmas.Option.{none-some}
use Rattle.limbo_typed.specs.Sound.{Each}
use Rattle.limbo_typed_sound.specs.Describing.{Begins}
use Rattle.limbo_typed_sound.proofs.Lists.{each_at}

pub begins_itself : {A : Type 0} (xs : List A) → Begins xs xs
begins_itself xs n x e = e

pub begins_on : {A : Type 0} (xs ys zs : List A) → Begins xs ys → Begins ys zs → Begins xs zs
begins_on xs ys zs g h n x e = h n x (g n x e)

-- the lists without their first items
rest_begins : {A : Type 0} (x y : A) (xs ys : List A) → Begins (x ∷ xs) (y ∷ ys) → Begins xs ys
rest_begins x y xs ys b n z e = b (suc n) z e

pub as_long : {A : Type 0} (xs ys : List A) → Begins xs ys → length xs ≤ length ys
as_long [] ys b = omega arith
as_long (x ∷ xs) [] b = absurd (none-some x (b 0 x refl))
as_long (x ∷ xs) (y ∷ ys) b = let h = as_long xs ys (rest_begins x y xs ys b) in omega arith

pub each_of : {A : Type 0} (P : A → Type 0) (xs : List A) → ((n : ℕ) (x : A) → slice_get xs n ≡ Some x → P x) → Each P xs
each_of P [] f = tt
each_of P (x ∷ xs) f = (f 0 x refl, each_of P xs (λ n y e. f (suc n) y e))

-- what stands before another list's first items, is kept
pub taken : {A : Type 0} (xs ys ds : List A) → Begins xs ys → Begins xs (take (length xs) ys ++ ds)
taken [] ys ds b n x e = absurd (none-some x e)
taken (x ∷ xs) [] ds b n y e = absurd (none-some x (b 0 x refl))
taken (x ∷ xs) (y ∷ ys) ds b zero z e = b 0 z e
taken (x ∷ xs) (y ∷ ys) ds b (suc n) z e = taken xs ys ds (rest_begins x y xs ys b) n z e

pub each_before : {A : Type 0} (P : A → Type 0) (xs ys : List A) → Begins xs ys → Each P ys → Each P xs
each_before P xs ys b h = each_of P xs (λ n x e. each_at P ys n x (b n x e) h)
