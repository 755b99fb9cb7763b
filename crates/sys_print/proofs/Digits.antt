-- Digits to the base 16, and the bits that they tell.
use Rattle.std.proofs.Common.{◌≡◌, ℕ, zero, suc, ◌<◌, ◌/◌, ◌%◌, ◌^◌, ℤ, pos, negsuc, Bool, true, false, List, [], ◌∷◌, arith, w32, of_z, FitsSigned, if◌then◌else◌}
use Rattle.std.specs.Prelude.{◌==◌, unsigned_abs}
use Rattle.std.specs.Int.{int_rem_euclid}
use Rattle.std.specs.Str.{IsAscii}
use Rattle.std.specs.Fmt.{digits, digits_onto, digit_glyph}
use Rattle.std.proofs.lemmas.Str.Ascii.{IsAscii-nil, IsAscii-cons}
use Rattle.std.proofs.lemmas.Bool.Decides.{nat_tests}

glyph_ascii : (d : ℕ) → d < 16 → digit_glyph false d < 128
glyph_ascii d h = grind (arith, nat_tests)

onto_ascii : (k n : ℕ) (behind : List ℕ) → IsAscii behind → IsAscii (digits_onto k 16 false n behind)
onto_ascii zero n behind h = h
onto_ascii (suc k) n behind h = go (n / 16 == 0) (onto_ascii k (n / 16) (digit_glyph false (n % 16) ∷ behind) first)
  where
    first : IsAscii (digit_glyph false (n % 16) ∷ behind)
    first = IsAscii-cons (digit_glyph false (n % 16)) behind (glyph_ascii (n % 16) (omega arith)) h

    go : (last : Bool) → IsAscii (digits_onto k 16 false (n / 16) (digit_glyph false (n % 16) ∷ behind)) →
        IsAscii (if last then digit_glyph false (n % 16) ∷ behind else digits_onto k 16 false (n / 16) (digit_glyph false (n % 16) ∷ behind))
    go true others = first
    go false others = others

pub digits_ascii : (n : ℕ) → IsAscii (digits 16 false n)
unfolding digits
digits_ascii n = onto_ascii 64 n [] IsAscii-nil

-- The 32 bits of an int.
pub bits_are : (z : ℤ) → FitsSigned w32 z → of_z w32 z ≡ unsigned_abs (int_rem_euclid z (pos (2 ^ 32)))
bits_are (pos n) h = omega arith
bits_are (negsuc n) h = omega arith
