-- Bytes, by the words in which they lie.
use Rattle.std.specs.Prelude.{ℕ, ℤ, pos, ◌/◌, ◌%◌, ◌*◌, List}
use Rattle.dis_meaning.specs.Words.{Word, Access, Found, ◌>>=◌, at_least_zero}
use Rattle.dis_meaning.specs.Numbers.{with_byte, nth_number}
use Rattle.dis_meaning.specs.Places.{Spot, Own, Data, Far}

-- The byte of this number in the same place.
abbrev pub moved : Spot → ℤ → Spot
moved (Own _) at = Own at
moved (Data _) at = Data at
moved (Far place _) at = Far place at

-- The byte at which the word of a byte begins, and the number of that word with the byte in it.
abbrev pub word_with_byte : List Word → (at : ℤ) → (byte : ℕ) → Access (ℤ × ℤ)
word_with_byte words at byte =
    at_least_zero at >>= λ n. nth_number words (n / 4) >>= λ old. Found (pos (n / 4 * 4), with_byte old (n % 4) byte)
