-- What tests that hold say.
use Rattle.std.proofs.Common.{◌≡◌, ◌<◌, ℕ, zero, suc, Bool, true, false, ◌&&◌, ◌||◌, ◌⊎◌, inl, inr, List, [], ◌∷◌, Some}
use Rattle.std.proofs.Common.{refl, sym, ap, ◌∙◌, rules, tests}
use Rattle.std.specs.Prelude.{slice_get, nat_lt}
use Rattle.std.proofs.lemmas.Option.{none-some, same_Some}
use Rattle.std.proofs.lemmas.Bool.{false≢true}
use Rattle.typed_part.specs.Part.{all}

pub left : (a b : Bool) → (a && b) ≡ true → a ≡ true
left true b h = refl
left false b h = h

pub right : (a b : Bool) → (a && b) ≡ true → b ≡ true
right true b h = h
right false b h = absurd (false≢true h)

pub one_holds : (a b : Bool) → (a || b) ≡ true → (a ≡ true) ⊎ (b ≡ true)
one_holds true b h = inl refl
one_holds false b h = inr h

pub less : (k n : ℕ) → nat_lt k n ≡ true → k < n
less k n h = search (rules, tests, h)

-- a test that holds of all holds of the one at a place
pub all_at : {A : Type 0} (test : A → Bool) (xs : List A) (n : ℕ) (x : A) → slice_get xs n ≡ Some x → all test xs ≡ true → test x ≡ true
all_at test [] n x e h = absurd (none-some x e)
all_at test (y ∷ xs) zero x e h = ap test (sym (same_Some y x e)) ∙ left (test y) (all test xs) h
all_at test (y ∷ xs) (suc n) x e h = all_at test xs n x e (right (test y) (all test xs) h)
