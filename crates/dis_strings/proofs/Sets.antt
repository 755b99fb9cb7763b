-- Values that are put into lists.
use Rattle.std.proofs.Common.{◌≡◌, ℕ, zero, suc, ◌+◌, ◌<◌, List, [], ◌∷◌, ◌++◌, length, Option, Some, None, refl, ap, arith}
use Rattle.std.specs.Prelude.{slice_get, slice_set}
use Rattle.std.specs.Option.{option_map}
use Rattle.heap_model.specs.Heap.{Heap, at, in_all, in_one}
use Rattle.dis_meaning.specs.Counts.{in_words, refers}
use Rattle.dis_meaning.specs.Words.{Word}

pub none_live : {A B : Type 0} (f : A → B) (o : Option A) → option_map f o ≡ None → o ≡ None
none_live f None e = refl
none_live f (Some a) e = absurd cc

pub set_front : {A : Type 0} (xs ys : List A) (k : ℕ) (a : A) → k < length xs → slice_set (xs ++ ys) k a ≡ slice_set xs k a ++ ys
set_front [] ys k a lt = absurd (omega (arith, lt))
set_front (x ∷ xs) ys zero a lt = refl
set_front (x ∷ xs) ys (suc k) a lt = ap (λ zs. x ∷ zs) (set_front xs ys k a (omega (arith, lt)))

pub set_twice : {A : Type 0} (xs : List A) (n k : ℕ) (a b : A) → (n ≡ k → ⊥) → slice_set (slice_set xs n a) k b ≡ slice_set (slice_set xs k b) n a
set_twice [] n k a b ne = refl
set_twice (x ∷ xs) zero zero a b ne = absurd (ne refl)
set_twice (x ∷ xs) zero (suc k) a b ne = refl
set_twice (x ∷ xs) (suc n) zero a b ne = refl
set_twice (x ∷ xs) (suc n) (suc k) a b ne = ap (λ zs. x ∷ zs) (set_twice xs n k a b (λ e. ne (ap suc e)))

pub set_got : {A : Type 0} (xs : List A) (k : ℕ) (a b : A) → slice_get xs k ≡ Some a → slice_get (slice_set xs k b) k ≡ Some b
set_got [] k a b e = absurd cc
set_got (x ∷ xs) zero a b e = refl
set_got (x ∷ xs) (suc k) a b e = set_got xs k a b e

pub place_within : {A : Type 0} (h : Heap A) (k : ℕ) (a : A) → at h k ≡ Some a → k < length h
place_within [] k a e = absurd cc
place_within (o ∷ os) zero a e = omega arith
place_within (o ∷ os) (suc k) a e = let r = place_within os k a e in omega (arith, r)

pub place_front : {A : Type 0} (h g : Heap A) (k : ℕ) (a : A) → at h k ≡ Some a → at (h ++ g) k ≡ Some a
place_front [] g k a e = absurd cc
place_front (o ∷ os) g zero a e = e
place_front (o ∷ os) g (suc k) a e = place_front os g k a e

-- One value takes the place of another.
pub in_all_set : {A : Type 0} (inside : A → ℕ → ℕ) (h : Heap A) (k : ℕ) (a : A) (o : Option A) (n : ℕ) → at h k ≡ Some a →
    in_all inside (slice_set h k o) n + inside a n ≡ in_all inside h n + in_one inside o n
in_all_set inside [] k a o n e = absurd cc
in_all_set inside (p ∷ os) zero a o n e = let h : in_one inside p n ≡ inside a n = ap (λ p. in_one inside p n) e in omega (arith, h)
in_all_set inside (p ∷ os) (suc k) a o n e = let r = in_all_set inside os k a o n e in omega (arith, r)

pub in_words_set : (ws : List Word) (k : ℕ) (old new : Word) (n : ℕ) → slice_get ws k ≡ Some old →
    in_words n (slice_set ws k new) + refers n old ≡ in_words n ws + refers n new
in_words_set [] k old new n e = absurd cc
in_words_set (w ∷ ws) zero old new n e = let same : w ≡ old = cc in let h = ap (refers n) same in omega (arith, h)
in_words_set (w ∷ ws) (suc k) old new n e = let r = in_words_set ws k old new n e in omega (arith, r)
