-- How numbers are told by the verbs of a format (Inferno manual, sys-print(2)).
use Rattle.std.specs.Prelude.{ℕ, ℤ, pos, negsuc, nat_lt, nat_le, false, ◌&&◌, ◌||◌, List, if◌then◌else◌}
use Rattle.std.specs.Fmt.{digits}
use Rattle.limbo_values.specs.declared.number.Kind.TheVariants.{Int}
use Rattle.limbo_values.specs.Numbers.{bits_of}

-- The character of a code. A code that no character has is U+FFFD.
abbrev pub character : ℤ → ℕ
character (pos c) = if nat_lt c 0xD800 || (nat_le 0xE000 c && nat_le c 0x10FFFF) then c else 65533
character (negsuc c) = 65533

-- The digits of an int's 32 bits to the base 16, without leading zeros.
abbrev pub hexadecimal : ℤ → List ℕ
hexadecimal z = digits 16 false (bits_of Int z)
