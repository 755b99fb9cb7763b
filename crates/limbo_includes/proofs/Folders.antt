-- Folders of paths.
use Rattle.std.proofs.Common.{◌≡◌, ◌≢◌, ℕ, ◌+◌, ◌-◌, ◌<◌, ◌≤◌, ◌==◌, ◌||◌, Bool, true, false, if◌then◌else◌, List, [], ◌∷◌, ◌++◌, length, take, get_or, refl, sym, ap, ◌∙◌, arith}
use Rattle.std.proofs.lemmas.List.{take_more}
use Rattle.limbo_includes.specs.Includes.{slash, has_slash, folder_of}

or_true : (a b : Bool) → b ≡ true → (a || b) ≡ true
or_true true b e = refl
or_true false b e = e

slash_last : (xs : List ℕ) → has_slash (xs ++ slash ∷ []) ≡ true
slash_last [] = refl
slash_last (x ∷ xs) = or_true (x == slash) (has_slash (xs ++ slash ∷ [])) (slash_last xs)

folder_slash : (xs : List ℕ) → folder_of (xs ++ slash ∷ []) ≡ xs ++ slash ∷ []
folder_slash [] = refl
folder_slash (x ∷ xs) =
    ap (λ (b : Bool). if b then x ∷ folder_of (xs ++ slash ∷ []) else []) (or_true (x == slash) (has_slash (xs ++ slash ∷ [])) (slash_last xs))
    ∙ ap (λ (z : List ℕ). x ∷ z) (folder_slash xs)

slash_other : (xs : List ℕ) (c : ℕ) → (c == slash) ≡ false → has_slash (xs ++ c ∷ []) ≡ has_slash xs
slash_other [] c e = ap (λ (b : Bool). b || false) e
slash_other (x ∷ xs) c e = ap (λ (b : Bool). (x == slash) || b) (slash_other xs c e)

folder_other : (xs : List ℕ) (c : ℕ) → (c == slash) ≡ false → folder_of (xs ++ c ∷ []) ≡ folder_of xs
folder_other [] c e = ap (λ (b : Bool). if b || false then c ∷ [] else []) e
folder_other (x ∷ xs) c e =
    ap (λ (b : Bool). if (x == slash) || b then x ∷ folder_of (xs ++ c ∷ []) else []) (slash_other xs c e)
    ∙ ap (λ (z : List ℕ). if (x == slash) || has_slash xs then x ∷ z else []) (folder_other xs c e)

last_apart : (path : List ℕ) (n c : ℕ) → 0 < n → n ≤ length path → c ≡ get_or path (n - 1) c → take n path ≡ take (n - 1) path ++ c ∷ []
last_apart path n c a h e =
    let q : n ≡ n - 1 + 1 = omega arith in
    ap (λ (z : ℕ). take z path) q ∙ take_more path (n - 1) c (omega arith) ∙ ap (λ (x : ℕ). take (n - 1) path ++ x ∷ []) (sym e)

pub folder_here : (path : List ℕ) (n c : ℕ) → 0 < n → n ≤ length path → c ≡ get_or path (n - 1) c → c ≡ slash → folder_of (take n path) ≡ take n path
folder_here path n c a h e s =
    let t : take n path ≡ take (n - 1) path ++ slash ∷ [] = last_apart path n c a h e ∙ ap (λ (x : ℕ). take (n - 1) path ++ x ∷ []) s in
    ap folder_of t ∙ folder_slash (take (n - 1) path) ∙ sym t

pub folder_before : (path : List ℕ) (n c : ℕ) → 0 < n → n ≤ length path → c ≡ get_or path (n - 1) c → c ≢ slash → folder_of (take n path) ≡ folder_of (take (n - 1) path)
folder_before path n c a h e s =
    ap folder_of (last_apart path n c a h e) ∙ folder_other (take (n - 1) path) c (apart (c == slash) refl)
  where
    apart : (b : Bool) → (c == slash) ≡ b → (c == slash) ≡ false
    apart true q = absurd (s (grind (arith, q)))
    apart false q = q
