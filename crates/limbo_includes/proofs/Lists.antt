-- What stands in a list.
use Rattle.std.proofs.Common.{◌≡◌, ℕ, zero, suc, ◌<◌, ◌+◌, List, [], ◌∷◌, ◌++◌, length, take, drop, get_or, Option, None, Some, refl, sym, ap, subst, ◌∙◌, ◌⊎◌, inl, inr, arith}
use Rattle.std.specs.Option.{IfNone, IfSome}
use Rattle.std.specs.List.{Contains}
use Rattle.std.proofs.lemmas.List.{take_more, drop_more, take-append-drop}
use Rattle.std.proofs.lemmas.List.Elements.{Contains-push, Contains-push_cases, Contains-append_left}

pub contains_here : {X : Type 0} (x : X) (xs : List X) → Contains (x ∷ xs) x
contains_here x xs = (zero, omega arith, refl)

pub contains_there : {X : Type 0} (x y : X) (xs : List X) → Contains xs y → Contains (x ∷ xs) y
contains_there x y xs c = let l = c.1 in (suc c.0, omega arith, c.2)

pub contains_cases : {X : Type 0} (x y : X) (xs : List X) → Contains (x ∷ xs) y → (x ≡ y) ⊎ Contains xs y
contains_cases {X} x y xs (zero, l, e) = inl e
contains_cases {X} x y xs (suc k, l, e) = inr (k, omega arith, e)

-- a list up to behind one of its elements
pub taken : {X : Type 0} (xs : List X) (i : ℕ) (x : X) → i < length xs → x ≡ get_or xs i x → take (i + 1) xs ≡ take i xs ++ x ∷ []
taken {X} xs i x l e = take_more xs i x l ∙ ap (λ (z : X). take i xs ++ z ∷ []) (sym e)

-- what stands before it, itself, and what stands behind it
pub whole_at : {X : Type 0} (xs : List X) (i : ℕ) (x : X) → i < length xs → x ≡ get_or xs i x → take i xs ++ (x ∷ drop (i + 1) xs) ≡ xs
whole_at {X} xs i x l e =
    ap (λ (z : X). take i xs ++ (z ∷ drop (i + 1) xs)) e ∙ ap (λ (z : List X). take i xs ++ z) (sym (drop_more xs i x l)) ∙ take-append-drop i xs

pub contains_taken :
    {X : Type 0} (xs : List X) (i : ℕ) (x y : X) → i < length xs → x ≡ get_or xs i x → Contains (take (i + 1) xs) y → Contains (take i xs) y ⊎ (x ≡ y)
contains_taken {X} xs i x y l e c = Contains-push_cases (take i xs) x y (subst (λ (z : List X). Contains z y) (taken xs i x l e) c)

pub taken_contains : {X : Type 0} (xs : List X) (i : ℕ) (x y : X) → i < length xs → x ≡ get_or xs i x → Contains (take i xs) y → Contains (take (i + 1) xs) y
taken_contains {X} xs i x y l e c = subst (λ (z : List X). Contains z y) (sym (taken xs i x l e)) (Contains-append_left (take i xs) (x ∷ []) y c)

pub taken_last : {X : Type 0} (xs : List X) (i : ℕ) (x : X) → i < length xs → x ≡ get_or xs i x → Contains (take (i + 1) xs) x
taken_last {X} xs i x l e = subst (λ (z : List X). Contains z x) (sym (taken xs i x l e)) (Contains-push (take i xs) x)

pub contains_at : {X : Type 0} (xs : List X) (i : ℕ) (x : X) → i < length xs → x ≡ get_or xs i x → Contains xs x
contains_at xs i x l e = (i, l, sym e)

pub none_left : {X : Type 0} (o : Option X) → ((x : X) → o ≡ Some x → ⊥) → o ≡ None
none_left {X} None f = refl
none_left {X} (Some x) f = absurd (f x refl)

pub none_at : {X : Type 0} {P : Type 0} (o : Option X) → IfNone o P → o ≡ None → P
none_at {X} {P} None p e = p
none_at {X} {P} (Some x) p e = absurd cc

pub some_at : {X : Type 0} (P : X → Type 0) (o : Option X) (x : X) → IfSome o P → o ≡ Some x → P x
some_at {X} P None x p e = absurd cc
some_at {X} P (Some y) x p e = let q : y ≡ x = cc in subst P q p
