-- The characters of well-formed UTF-8.
use Rattle.std.proofs.Common.{◌≡◌, ℕ, Bool, true, false, List, refl}
use Rattle.std.specs.Str.{IsUtf8, is_utf8}
use Rattle.std.proofs.lemmas.Str.{IsUtf8-from_is_utf8}

bad_test : (bs : List ℕ) (b : Bool) → is_utf8 bs ≡ b → (IsUtf8 bs → ⊥) → b ≡ false
bad_test bs true e bad = absurd (bad (IsUtf8-from_is_utf8 bs e))
bad_test bs false e bad = refl

-- bytes that are no UTF-8 fail the test
pub is_utf8-bad : (bs : List ℕ) → (IsUtf8 bs → ⊥) → is_utf8 bs ≡ false
is_utf8-bad bs bad = bad_test bs (is_utf8 bs) refl bad
