-- Numbers that digits write.
use Rattle.std.proofs.Common.{◌≡◌, ◌≤◌, ◌+◌, ◌-◌, ◌*◌, ℕ, List, [], ◌∷◌, true, cond, length, get_or, sym, ap, subst, arith}
use Rattle.inf_text.specs.InFront.{is_digit, number_after}
use Rattle.limbo_fields.specs.Fields.{AllDigits}

number_after_digit : (n c : ℕ) (cs : List ℕ) → is_digit c ≡ true → number_after n (c ∷ cs) ≡ number_after (10 * n + (c - 48)) cs
number_after_digit n c cs digit = ap (λ t. cond t (number_after (10 * n + (c - 48)) cs) n) digit

-- more digits make no number less
pub grows : (cs : List ℕ) (n : ℕ) → AllDigits cs → n ≤ number_after n cs
grows [] n a = omega arith
grows (c ∷ cs) n a =
    let g = grows cs (10 * n + (c - 48)) a.1 in
    let e = number_after_digit n c cs a.0 in
    omega arith

pub at_least : (n c : ℕ) (cs : List ℕ) → AllDigits (c ∷ cs) → 10 * n + (c - 48) ≤ number_after n (c ∷ cs)
at_least n c cs a =
    let g = grows cs (10 * n + (c - 48)) a.1 in
    let e = number_after_digit n c cs a.0 in
    omega arith

-- the same of digits whose first is known
pub at_least_front : (n c : ℕ) (cs : List ℕ) → 1 ≤ length cs → c ≡ get_or cs 0 c → AllDigits cs → 10 * n + (c - 48) ≤ number_after n cs
at_least_front n c [] l e a = absurd (omega arith)
at_least_front n c (d ∷ cs) l e a = subst (λ (z : ℕ). 10 * n + (z - 48) ≤ number_after n (d ∷ cs)) (sym e) (at_least n d cs a)
