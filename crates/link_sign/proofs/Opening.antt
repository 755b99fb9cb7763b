-- A map that has the place of the first with each number, where a list grows at its end.
use Rattle.std.proofs.Common.{◌≡◌, ℕ, Bool, true, false, cond, ◌==◌, List, [], ◌∷◌, ◌++◌, length, Option, None, Some, refl, sym, ap, ◌∙◌, arith, rules, tests}
use Rattle.std.proofs.lemmas.Bool.Decides.{nat_tests}
use Rattle.std.specs.Ordering.{nat_cmp}
use Rattle.std.specs.BTreeMap.{is_at}
use Rattle.link_sign.specs.TypeText.{place}
use Rattle.link_sign.proofs.Places.{place_before, place_behind}

same_test : (n q : ℕ) → is_at (nat_cmp n) q ≡ (n == q)
same_test n q = grind (arith, nat_tests)

pub eq_from_test : (n q : ℕ) → (n == q) ≡ true → n ≡ q
eq_from_test n q h = search (rules, tests, h)

pub test_from_eq : (n q : ℕ) → n ≡ q → (n == q) ≡ true
test_from_eq n q h = search (rules, tests, h)

-- one with a number that none had comes to the list and into the map
pub still_placed : {A : Type 0} (key : A → ℕ) (xs : List A) (y : A) (q : ℕ) → place (λ x. key x == key y) xs ≡ None
    → (was : Option ℕ) → was ≡ place (λ x. key x == q) xs → cond (is_at (nat_cmp (key y)) q) (Some (length xs)) was ≡ place (λ x. key x == q) (xs ++ y ∷ [])
still_placed key xs y q h was e = go (key y == q) was refl e
  where
    go : (b : Bool) (was : Option ℕ) → (key y == q) ≡ b → was ≡ place (λ x. key x == q) xs
        → cond (is_at (nat_cmp (key y)) q) (Some (length xs)) was ≡ place (λ x. key x == q) (xs ++ y ∷ [])
    go true was t e =
        let none : place (λ x. key x == q) xs ≡ None = ap (λ z. place (λ x. key x == z) xs) (sym (eq_from_test (key y) q t)) ∙ h in
        ap (λ b. cond b (Some (length xs)) was) (same_test (key y) q ∙ t)
        ∙ sym (place_behind (λ x. key x == q) xs y none ∙ ap (λ b. cond b (Some (length xs)) None) t)
    go false None t e =
        ap (λ b. cond b (Some (length xs)) None) (same_test (key y) q ∙ t)
        ∙ sym (place_behind (λ x. key x == q) xs y (sym e) ∙ ap (λ b. cond b (Some (length xs)) None) t)
    go false (Some k) t e =
        ap (λ b. cond b (Some (length xs)) (Some k)) (same_test (key y) q ∙ t)
        ∙ sym (place_before (λ x. key x == q) xs (y ∷ []) k (sym e))

-- one with a number that another has changes no place
pub same_places : {A : Type 0} (key : A → ℕ) (xs : List A) (y : A) (q k : ℕ) → place (λ x. key x == key y) xs ≡ Some k
    → place (λ x. key x == q) xs ≡ place (λ x. key x == q) (xs ++ y ∷ [])
same_places key xs y q k h = go (place (λ x. key x == q) xs) (key y == q) refl refl
  where
    go : (o : Option ℕ) (b : Bool) → place (λ x. key x == q) xs ≡ o → (key y == q) ≡ b → place (λ x. key x == q) xs ≡ place (λ x. key x == q) (xs ++ y ∷ [])
    go (Some j) b e t = e ∙ sym (place_before (λ x. key x == q) xs (y ∷ []) j e)
    go None true e t =
        let found : place (λ x. key x == q) xs ≡ Some k = ap (λ z. place (λ x. key x == z) xs) (sym (eq_from_test (key y) q t)) ∙ h in
        absurd (let never : None ≡ Some k = sym e ∙ found in cc)
    go None false e t = e ∙ sym (place_behind (λ x. key x == q) xs y e ∙ ap (λ b. cond b (Some (length xs)) None) t)
