-- Places in lists.
use Rattle.std.proofs.Common.{◌≡◌, ℕ, zero, suc, ◌<◌, List, [], ◌∷◌, length, arith}
use Rattle.limbo_cases.specs.Labels.{StandsAt}

pub same_there : {A : Type 0} → (xs : List A) (i : ℕ) (x y : A) → StandsAt xs i x → StandsAt xs i y → x ≡ y
same_there xs i x y a b = cc

pub inside : {A : Type 0} → (xs : List A) (i : ℕ) (x : A) → StandsAt xs i x → i < length xs
inside [] i x h = absurd cc
inside (y ∷ ys) zero x h = omega arith
inside (y ∷ ys) (suc i) x h = let l = inside ys i x h in omega arith
