-- Numbers (Limbo Language Reference, lexical conventions; the two's complement of a number with a radix is our rule).
use Rattle.std.specs.Prelude.{ℕ, ◌+◌, ◌*◌, List, [], ◌∷◌, Bool, true, false, ◌==◌, ◌||◌, ◌&&◌, nat_le, nat_lt}
use Rattle.std.specs.Prelude.{if◌then◌else◌, pos}
use Rattle.std.specs.List.{fold, list_all}
use Rattle.std.specs.Char.{digit_value, is_digit}
use Rattle.std.specs.Int.{cast_signed, w32, w64}
use Rattle.limbo_lexer.specs.declared.token.Kind.{Kind}
use Rattle.limbo_lexer.specs.declared.token.Kind.TheVariants.{Number}

-- The text begins with a character that passes a test.
abbrev pub begins : (ℕ → Bool) → List ℕ → Bool
begins p [] = false
begins p (c ∷ s) = p c

-- Digits below a radix, at least one. Letters of either case stand for the digits from 10 to 35.
abbrev pub are_digits : ℕ → List ℕ → Bool
are_digits radix s = begins (λ c. is_digit c radix) s && list_all (λ c. is_digit c radix) s

-- The value of digits, the first the highest.
abbrev pub digits_value : ℕ → List ℕ → ℕ
digits_value radix s = fold (λ n c. n * radix + digit_value c) 0 s

-- A radix is a decimal number from 2 to 36.
abbrev pub is_radix : List ℕ → Bool
is_radix s = nat_le 2 (digits_value 10 s) && nat_le (digits_value 10 s) 36

-- `r` or `R` stands between a radix and its digits.
abbrev pub is_radix_sign : ℕ → Bool
is_radix_sign c = c == 114 || c == 82

-- A decimal number up to 2147483647 is an int, and a greater one a big.
abbrev pub decimal_kind : ℕ → Kind
decimal_kind n = Number (pos n) (nat_lt 2147483647 n)

-- The greatest decimal number.
abbrev pub is_decimal_value : ℕ → Bool
is_decimal_value n = nat_le n 9223372036854775807

-- A number with a radix below 2^32 is an int by its low 32 bits, and a greater one a big by its 64 bits.
abbrev pub radix_kind : ℕ → Kind
radix_kind n = if nat_lt n 4294967296 then Number (cast_signed w32 n) false else Number (cast_signed w64 n) true

-- A number with a radix is below 2^64.
abbrev pub is_radix_value : ℕ → Bool
is_radix_value n = nat_lt n 18446744073709551616

-- A point and a digit, as behind the whole part of a fraction.
abbrev pub begins_fraction : List ℕ → Bool
begins_fraction [] = false
begins_fraction (c ∷ s) = c == 46 && begins (λ d. is_digit d 10) s
