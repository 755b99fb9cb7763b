-- The characters of well-formed UTF-8, the first byte 0, and numbers that aren't below 0.
use Rattle.std.proofs.Common.{◌≡◌, ℕ, ◌+◌, Bool, true, false, List, Option, Some, None, refl}
use Rattle.std.proofs.Common.{Ok, ℤ, pos}
use Rattle.std.specs.Str.{IsUtf8, is_utf8}
use Rattle.std.proofs.lemmas.Str.{IsUtf8-from_is_utf8}
use Rattle.dis_format.specs.Operands.{from_zero}
use Rattle.dis_format.specs.Reading.{number_at, natural_at}

bad_test : (bs : List ℕ) (b : Bool) → is_utf8 bs ≡ b → (IsUtf8 bs → ⊥) → b ≡ false
bad_test bs true e bad = absurd (bad (IsUtf8-from_is_utf8 bs e))
bad_test bs false e bad = refl

-- bytes that are no UTF-8 fail the test
pub is_utf8-bad : (bs : List ℕ) → (IsUtf8 bs → ⊥) → is_utf8 bs ≡ false
is_utf8-bad bs bad = bad_test bs (is_utf8 bs) refl bad

-- so many bytes further
abbrev pub further : ℕ → Option ℕ → Option ℕ
further n None = None
further n (Some m) = Some (n + m)

pub natural_is : (bytes : List ℕ) (n : ℤ) (m : ℕ) (rest : List ℕ) → pos m ≡ n
    → number_at from_zero bytes ≡ Ok (n, rest) → natural_at bytes ≡ Ok (m, rest)
unfolding natural_at
natural_is bytes n m rest is h = rw (h, ← is) refl
