-- Values of digits.
use Rattle.std.proofs.Common.{◌≡◌, ℕ, zero, suc, ◌+◌, ◌*◌, ◌<◌, ◌≤◌, List, [], ◌∷◌, length, get_or, take, sym, subst, arith}
use Rattle.std.specs.List.{fold}
use Rattle.std.specs.Char.{digit_value}
use Rattle.limbo_lexer.specs.Numbers.{digits_value}

abbrev pub more_value : ℕ → ℕ → ℕ → ℕ
more_value r n c = n * r + digit_value c

times : (n r : ℕ) → 0 < r → n ≤ n * r
times n zero h = absurd (omega arith)
times n (suc r) h = grind arith

grows : (r n : ℕ) (s : List ℕ) → 0 < r → n ≤ fold (more_value r) n s
grows r n [] h = omega arith
grows r n (c ∷ s) h =
    let a = grows r (n * r + digit_value c) s h in
    let b = times n r h in
    omega (arith, a, b)

grows_from : (r n : ℕ) (s : List ℕ) (i x : ℕ) → 0 < r → i < length s → x ≡ get_or s i x → fold (more_value r) n (take i s) * r + digit_value x ≤ fold (more_value r) n s
grows_from r n [] i x h l e = absurd (omega arith)
grows_from r n (y ∷ s) zero x h l e =
    let k : x ≡ y = e in
    let a = grows r (n * r + digit_value y) s h in
    subst (λ z. n * r + digit_value z ≤ fold (more_value r) (n * r + digit_value y) s) (sym k) a
grows_from r n (y ∷ s) (suc i) x h l e = grows_from r (n * r + digit_value y) s i x h (omega arith) e

-- A loop's value so far, with the next digit, is at most the value of all digits.
pub value_grows : (r : ℕ) (s : List ℕ) (i x v : ℕ) → 0 < r → i < length s → x ≡ get_or s i x → v ≡ fold (more_value r) 0 (take i s) → v * r + digit_value x ≤ digits_value r s
value_grows r s i x v h l e is = subst (λ z. z * r + digit_value x ≤ digits_value r s) (sym is) (grows_from r 0 s i x h l e)
