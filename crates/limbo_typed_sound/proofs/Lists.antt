-- Lists, and those that begin others.
use Rattle.std.proofs.Common.{◌≡◌, ℕ, zero, suc, List, [], ◌∷◌, ◌++◌, length, Some, refl, subst}
use Rattle.std.specs.Prelude.{slice_get}
use Rattle.std.proofs.lemmas.Option.{none-some, same_Some}
use Rattle.limbo_typed.specs.Sound.{Each}
use Rattle.limbo_typed_sound.specs.Describing.{Begins}

pub each_at : {A : Type 0} (P : A → Type 0) (xs : List A) (n : ℕ) (x : A) → slice_get xs n ≡ Some x → Each P xs → P x
each_at P [] n x e h = absurd (none-some x e)
each_at P (y ∷ ys) zero x e h = subst P (same_Some y x e) h.0
each_at P (y ∷ ys) (suc n) x e h = each_at P ys n x e h.1

pub each_and : {A : Type 0} (P : A → Type 0) (xs ys : List A) → Each P xs → Each P ys → Each P (xs ++ ys)
each_and P [] ys h k = k
each_and P (x ∷ xs) ys h k = (h.0, each_and P xs ys h.1 k)

pub begins_with : {A : Type 0} (xs ys : List A) → Begins xs (xs ++ ys)
begins_with [] ys n x e = absurd (none-some x e)
begins_with (y ∷ xs) ys zero x e = e
begins_with (y ∷ xs) ys (suc n) x e = begins_with xs ys n x e

-- what stands behind a list
pub at_end : {A : Type 0} (xs : List A) (x : A) → slice_get (xs ++ x ∷ []) (length xs) ≡ Some x
at_end [] x = refl
at_end (y ∷ xs) x = at_end xs x
