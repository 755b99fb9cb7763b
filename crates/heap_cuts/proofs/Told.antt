-- A heap whose values are told in another way.
use Rattle.std.proofs.Common.{◌≡◌, ℕ, zero, suc, ◌+◌, Bool, true, false, [], ◌∷◌, ◌++◌, length, map}
use Rattle.std.proofs.Common.{Option, Some, None, refl, ap, ◌∙◌, arith}
use Rattle.std.specs.Prelude.{eqb}
use Rattle.std.specs.Option.{option_map}
use Rattle.heap_model.specs.Heap.{Heap, at, gone, if_named, in_all, listed, lost_from, named_of, number, round, rounds, stays, there, went}
use Rattle.heap_model.proofs.Heap.{fun_ext}
use Rattle.heap_cuts.specs.Laws.{NamesAlike}

pub stays_same : {A : Type 0} (inside : A → ℕ → ℕ) (roots roots' : ℕ → ℕ) (h : Heap A) → ((n : ℕ) → roots n ≡ roots' n)
    → stays inside roots h ≡ stays inside roots' h
stays_same inside roots roots' h e = ap (λ (r : ℕ → ℕ). stays inside r h) (fun_ext e)

module _ {A B : Type 0} (f : A → B) (inside : A → ℕ → ℕ) (inside' : B → ℕ → ℕ) where
  abbrev told : Heap A → Heap B
  told h = map (option_map f) h

  all_told : (h : Heap A) → NamesAlike f inside inside' h → (n : ℕ) → in_all inside' (told h) n ≡ in_all inside h n
  all_told [] e n = refl
  all_told (None ∷ os) e n = ap (λ (x : ℕ). 0 + x) (all_told os (λ k. e (suc k)) n)
  all_told (Some a ∷ os) e n = omega (arith, e 0 a refl n, all_told os (λ k. e (suc k)) n)

  if_told : (c : ℕ) (o : Option A) → if_named inside' c (option_map f o) ≡ option_map f (if_named inside c o)
  if_told zero o = refl
  if_told (suc c) o = refl

  named_told : (count : ℕ → ℕ) (from : ℕ) (h : Heap A) → named_of inside' count from (told h) ≡ told (named_of inside count from h)
  named_told count from [] = refl
  named_told count from (o ∷ os) = let x = if_told (count from) o in let y = named_told count (suc from) os in λ i. x i ∷ y i

  named_was : (count : ℕ → ℕ) (from : ℕ) (h : Heap A) (k : ℕ) (a : A) → at (named_of inside count from h) k ≡ Some a → at h k ≡ Some a
  named_was count from [] k a e = absurd cc
  named_was count from (o ∷ os) zero a e = go (count from) e
    where
      go : (c : ℕ) → if_named inside c o ≡ Some a → o ≡ Some a
      go zero e = absurd cc
      go (suc c) e = e
  named_was count from (o ∷ os) (suc k) a e = named_was count (suc from) os k a e

  number_told : (h : Heap A) → number inside' (told h) ≡ number inside h
  number_told [] = refl
  number_told (None ∷ os) = number_told os
  number_told (Some a ∷ os) = ap suc (number_told os)

  length_told : (h : Heap A) → length (told h) ≡ length h
  length_told [] = refl
  length_told (o ∷ os) = ap suc (length_told os)

  round_told : (roots : ℕ → ℕ) (h : Heap A) → NamesAlike f inside inside' h → round inside' roots (told h) ≡ told (round inside roots h)
  round_told roots h e =
      ap (λ (c : ℕ → ℕ). named_of inside' c 0 (told h)) (fun_ext (λ n. ap (λ s. roots n + s) (all_told h e n)))
      ∙ named_told (λ n. roots n + in_all inside h n) 0 h

  round_alike : (roots : ℕ → ℕ) (h : Heap A) → NamesAlike f inside inside' h → NamesAlike f inside inside' (round inside roots h)
  round_alike roots h e k a is n = e k a (named_was (λ n. roots n + in_all inside h n) 0 h k a is) n

  rounds_told : (roots : ℕ → ℕ) (fuel : ℕ) (h : Heap A) → NamesAlike f inside inside' h
      → rounds inside' roots fuel (told h) ≡ told (rounds inside roots fuel h)
  rounds_told roots zero h e = refl
  rounds_told roots (suc fuel) h e =
      let r = round_told roots h e in
      go (eqb (number inside' (round inside' roots (told h))) (number inside' (told h)))
      (eqb (number inside (round inside roots h)) (number inside h))
      ((λ i. eqb (number inside' (r i)) (number_told h i)) ∙ ap (λ m. eqb m (number inside h)) (number_told (round inside roots h)))
      (ap (λ (t : Heap B). rounds inside' roots fuel t) r ∙ rounds_told roots fuel (round inside roots h) (round_alike roots h e))
    where
      go : (b c : Bool) → b ≡ c
          → rounds inside' roots fuel (round inside' roots (told h)) ≡ told (rounds inside roots fuel (round inside roots h))
          → (elim b as (λ _. Heap B) [ true ↦ told h | false ↦ rounds inside' roots fuel (round inside' roots (told h)) ])
          ≡ told (elim c as (λ _. Heap A) [ true ↦ h | false ↦ rounds inside roots fuel (round inside roots h) ])
      go true true e s = refl
      go false false e s = s
      go true false e s = absurd cc
      go false true e s = absurd cc

  pub stays_told : (roots : ℕ → ℕ) (h : Heap A) → NamesAlike f inside inside' h
      → stays inside' roots (map (option_map f) h) ≡ map (option_map f) (stays inside roots h)
  stays_told roots h e = ap (λ l. rounds inside' roots l (told h)) (length_told h) ∙ rounds_told roots (length h) h e

  there_told : (o : Option A) → there (option_map f o) ≡ there o
  there_told None = refl
  there_told (Some a) = refl

  lost_told : (n : ℕ) (g h : Heap A) → lost_from n (told g) (told h) ≡ lost_from n g h
  lost_told n [] h = refl
  lost_told n (o ∷ os) [] = refl
  lost_told n (o ∷ os) (p ∷ ps) =
      let x = there_told o in let y = there_told p in let z = lost_told (suc n) os ps in
      λ i. listed (went (x i) (y i)) n ++ z i

  pub gone_told : (roots : ℕ → ℕ) (h : Heap A) → NamesAlike f inside inside' h
      → gone inside' roots (map (option_map f) h) ≡ gone inside roots h
  gone_told roots h e = ap (λ (t : Heap B). lost_from 0 (told h) t) (stays_told roots h e) ∙ lost_told 0 h (stays inside roots h)
