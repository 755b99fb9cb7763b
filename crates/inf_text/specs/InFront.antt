-- The number at the front of a text (Limbo Language Reference, conversions of strings).
use Rattle.std.specs.Prelude.{ℕ, ℤ, ◌+◌, ◌-◌, ◌*◌, ◌%◌, ◌^◌, Bool, ◌==◌, ◌||◌, ◌&&◌, nat_le, if◌then◌else◌, List, [], ◌∷◌}
use Rattle.std.specs.Int.{cast_signed, int_wrapping_neg, w64}

-- a blank is a tab, a newline, a carriage return or a space
abbrev pub is_blank : ℕ → Bool
is_blank c = c == 9 || c == 10 || c == 13 || c == 32

abbrev pub is_digit : ℕ → Bool
is_digit c = nat_le 48 c && nat_le c 57

-- what stands behind the blanks at the front
abbrev pub behind_blanks : List ℕ → List ℕ
behind_blanks [] = []
behind_blanks (c ∷ cs) = if is_blank c then behind_blanks cs else c ∷ cs

-- the number whose decimal digits are those of n and then the digits at the front
abbrev pub number_after : ℕ → List ℕ → ℕ
number_after n [] = n
number_after n (c ∷ cs) = if is_digit c then number_after (10 * n + (c - 48)) cs else n

-- the low 64 bits of a number, as a signed one
abbrev pub low_bits : ℕ → ℤ
low_bits n = cast_signed w64 (n % 2 ^ 64)

-- a sign, if there is one, and digits
abbrev pub signed_number : List ℕ → ℤ
signed_number [] = low_bits 0
signed_number (c ∷ cs) =
    if c == 45 then int_wrapping_neg w64 (low_bits (number_after 0 cs))
    else (if c == 43 then low_bits (number_after 0 cs) else low_bits (number_after 0 (c ∷ cs)))

-- blanks, a sign and digits; what follows them doesn't count
abbrev pub number_in_front : List ℕ → ℤ
number_in_front text = signed_number (behind_blanks text)
