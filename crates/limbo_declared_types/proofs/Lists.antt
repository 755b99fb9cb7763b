-- Refusals, and types in a row.
use Rattle.std.proofs.Common.{◌≡◌, ◌<◌, ◌+◌, ◌++◌, ◌∷◌, ◌⊎◌, [], ℕ, zero, suc, List, Option, None, Some, length, map, take, get_or}
use Rattle.std.proofs.Common.{slice_get, sym, ap, subst, ◌∙◌, arith}
use Rattle.std.proofs.lemmas.List.{map_more}
use Rattle.std.specs.List.{Contains}
use Rattle.limbo_typed.specs.Sound.{Each}
use Rattle.limbo_refusals.specs.declared.fault.ExprFault.{ExprFault}
use Rattle.limbo_refusals.specs.Refusals.{Refusal, Refuses, told}

pub refuses_weaker : (f : ExprFault) (P Q : Refusal → Type 0) → ((r : Refusal) → P r → Q r) → Refuses f P → Refuses f Q
refuses_weaker f P Q w h = go (told f) h
  where
    go : (o : Option Refusal) → (elim o as (λ (z : Option Refusal). Type 0) [ None ↦ Unit {0} | Some r ↦ P r ])
        → (elim o as (λ (z : Option Refusal). Type 0) [ None ↦ Unit {0} | Some r ↦ Q r ])
    go None h = tt
    go (Some r) h = w r h

each_push : {A : Type 0} → (P : A → Type 0) (xs : List A) (x : A) → Each P xs → P x → Each P (xs ++ (x ∷ []))
each_push P [] x h p = (p, tt)
each_push P (y ∷ xs) x h p = (h.0, each_push P xs x h.1 p)

pub each_more : {A B : Type 0} → (f : A → B) (P : B → Type 0) (xs : List A) (i : ℕ) (x : A) → i < length xs → x ≡ get_or xs i x
    → Each P (map f (take i xs)) → P (f x) → Each P (map f (take (i + 1) xs))
each_more f P xs i x l e h p =
    subst (λ zs. Each P zs) (sym (map_more f xs i x l ∙ ap (λ z. map f (take i xs) ++ (f z ∷ [])) (sym e)))
    (each_push P (map f (take i xs)) (f x) h p)

pub seen_among : {A B : Type 0} → (f : A → B) (xs : List A) (i : ℕ) (x : A) → i < length xs → x ≡ get_or xs i x → Contains (map f xs) (f x)
seen_among f [] i x l e = absurd (omega arith)
seen_among f (y ∷ xs) zero x l e = (0, omega arith, ap f (sym e))
seen_among f (y ∷ xs) (suc i) x l e =
    let r = seen_among f xs i x (omega arith) e in
    let m : r.0 < length (map f xs) = r.1 in
    (suc r.0, omega arith, r.2)

each_there : {A : Type 0} → (P : A → Type 0) (xs : List A) (i : ℕ) (x : A) → i < length xs → get_or xs i x ≡ x → Each P xs → P x
each_there P [] i x l e h = absurd (omega arith)
each_there P (y ∷ xs) zero x l e h = subst P e h.0
each_there P (y ∷ xs) (suc i) x l e h = each_there P xs i x (omega arith) e h.1

pub each_has : {A : Type 0} → (P : A → Type 0) (xs : List A) (x : A) → Contains xs x → Each P xs → P x
each_has P xs x h all = each_there P xs h.0 x h.1 h.2 all

pub seen_there : {A B : Type 0} → (f : A → B) (xs : List A) (k : ℕ) (x : A) → slice_get xs k ≡ Some x → slice_get (map f xs) k ≡ Some (f x)
seen_there f [] k x h = absurd cc
seen_there f (y ∷ xs) zero x h = let e : y ≡ x = cc in ap (λ z. Some (f z)) e
seen_there f (y ∷ xs) (suc k) x h = seen_there f xs k x h

pub below_or_last : (k n : ℕ) → k < n + 1 → (k < n) ⊎ (k ≡ n)
below_or_last k n l = grind arith
