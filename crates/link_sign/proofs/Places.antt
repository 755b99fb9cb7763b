-- The place of the first that passes a test, where a list grows at its end.
use Rattle.std.proofs.Common.{◌≡◌, ℕ, suc, Bool, true, false, cond, List, [], ◌∷◌, ◌++◌, length, Option, None, Some, option_map, refl, ap, ◌∙◌}
use Rattle.link_sign.specs.TypeText.{place}

-- what was found is found
pub place_before : {A : Type 0} (test : A → Bool) (xs ys : List A) (k : ℕ) → place test xs ≡ Some k → place test (xs ++ ys) ≡ Some k
place_before test [] ys k h = absurd (cc)
place_before {A} test (x ∷ xs) ys k h = go (test x) (place test xs) (place test (xs ++ ys)) (λ j. place_before test xs ys j) k h
  where
    go : (b : Bool) (o p : Option ℕ) → ((j : ℕ) → o ≡ Some j → p ≡ Some j) → (k : ℕ) → cond b (Some 0) (option_map suc o) ≡ Some k → cond b (Some 0) (option_map suc p) ≡ Some k
    go true o p f k h = h
    go false None p f k h = absurd (cc)
    go false (Some j) p f k h = ap (option_map suc) (f j refl) ∙ h

-- where none was found, the one that comes to it is looked at
pub place_behind : {A : Type 0} (test : A → Bool) (xs : List A) (y : A) → place test xs ≡ None → place test (xs ++ y ∷ []) ≡ cond (test y) (Some (length xs)) None
place_behind test [] y h = refl
place_behind test (x ∷ xs) y h = go (test x) (place test xs) (place test (xs ++ y ∷ [])) (test y) (length xs) (place_behind test xs y) h
  where
    go : (b : Bool) (o p : Option ℕ) (c : Bool) (n : ℕ) → (o ≡ None → p ≡ cond c (Some n) None) → cond b (Some 0) (option_map suc o) ≡ None → cond b (Some 0) (option_map suc p) ≡ cond c (Some (suc n)) None
    go true o p c n f h = absurd (cc)
    go false (Some j) p c n f h = absurd (cc)
    go false None p true n f h = ap (option_map suc) (f refl)
    go false None p false n f h = ap (option_map suc) (f refl)

-- what has no place is none of them
pub place_none : {A : Type 0} (test : A → Bool) (x : A) (xs : List A) → place test (x ∷ xs) ≡ None → (test x ≡ false) × (place test xs ≡ None)
place_none test x xs h = go (test x) (place test xs) h
  where
    go : (b : Bool) (o : Option ℕ) → cond b (Some 0) (option_map suc o) ≡ None → (b ≡ false) × (o ≡ None)
    go true o h = absurd (cc)
    go false None h = (refl, refl)
    go false (Some j) h = absurd (cc)
