-- Sums that are to be small.
use Rattle.std.proofs.Common.{◌≡◌, ℕ, ◌+◌, ◌-◌, ◌≤◌, Bool, true, false, refl, sym, ◌∙◌, arith}
use Rattle.std.specs.Prelude.{nat_le}
use Rattle.std.proofs.lemmas.Bool.{le-leb, leb-true, leb-false, lt-leb}

pub nothing_fits : (n : ℕ) → true ≡ nat_le 0 n
nothing_fits n = sym (le-leb 0 n (omega arith))

-- The first of two, and the second.
pub one_more : (a b n : ℕ) → a ≤ n → nat_le b (n - a) ≡ nat_le (a + b) n
one_more a b n h = at (nat_le b (n - a)) refl
  where
    at : (x : Bool) → nat_le b (n - a) ≡ x → nat_le b (n - a) ≡ nat_le (a + b) n
    at true e = e ∙ sym (le-leb (a + b) n (let l = leb-true b (n - a) e in omega (arith, l, h)))
    at false e = e ∙ sym (lt-leb (a + b) n (let l = leb-false b (n - a) e in omega (arith, l, h)))
