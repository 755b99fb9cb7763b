-- Operations on strings (Limbo Language Reference, strings): lists of the codes of characters.
use Rattle.std.specs.Prelude.{ℕ, ℤ, pos, negsuc, Bool, ◌&&◌, nat_lt, nat_le, if◌then◌else◌, ◌+◌, ◌++◌, List, length, slice_index, slice_range, Option, Some, None, Result, Ok, Err}
use Rattle.std.specs.Ordering.{nat_cmp}
use Rattle.std.specs.Cmp.Lexicographic.{slice_cmp}
use Rattle.inf_text.specs.Steps.{◌>>=◌}
use Rattle.limbo_values.specs.declared.operator.Comparison.{Comparison}
use Rattle.limbo_values.specs.declared.raised.Raised.{Raised}
use Rattle.limbo_values.specs.declared.raised.Raised.TheVariants.{ArrayBounds, StringTooLong}
use Rattle.limbo_values.specs.declared.raised.JoinFault.{JoinFault}
use Rattle.limbo_values.specs.declared.raised.JoinFault.TheVariants.{NoMemory, Raises}
use Rattle.limbo_values.specs.Operators.{meets}

-- how many characters a string has at most
abbrev pub longest : ℕ
longest = 16777216

-- An index in what has so many elements, in an array or a string: from 0 on, below the length.
abbrev pub index_in : ℕ → ℤ → Result ℕ Raised
index_in count (pos i) = if nat_lt i count then Ok i else Err ArrayBounds
index_in count (negsuc i) = Err ArrayBounds

-- The bounds of a slice of what has so many elements: from 0 to the length, and not falling.
abbrev pub bounds_to : ℕ → ℕ → ℤ → Result (ℕ × ℕ) Raised
bounds_to count from (pos to) = if nat_le from to && nat_le to count then Ok (from, to) else Err ArrayBounds
bounds_to count from (negsuc to) = Err ArrayBounds

abbrev pub bounds_in : ℕ → ℤ → ℤ → Result (ℕ × ℕ) Raised
bounds_in count (pos from) to = bounds_to count from to
bounds_in count (negsuc from) to = Err ArrayBounds

-- `s[i]`: the code of a character
abbrev pub character_in : List ℕ → ℤ → Result ℤ Raised
character_in s i = index_in (length s) i >>= λ k. Ok (pos (slice_index s k))

-- `s[i:j]`: the characters from i on, before j
abbrev pub slice_in : List ℕ → ℤ → ℤ → Result (List ℕ) Raised
slice_in s from to = bounds_in (length s) from to >>= λ bounds. Ok (slice_range s bounds.0 bounds.1)

-- how many characters strings of a and b characters have together
abbrev pub joined_count : ℕ → ℕ → Result ℕ Raised
joined_count a b = if nat_le (a + b) longest then Ok (a + b) else Err StringTooLong

-- `s + t`: the characters of one behind those of the other
abbrev pub joined : List ℕ → List ℕ → Result (List ℕ) Raised
joined s t = joined_count (length s) (length t) >>= λ _. Ok (s ++ t)

-- Strings are compared by the codes of their characters: the first place at which they differ decides, and where one is the
-- front of the other, it is the lesser.
abbrev pub text_compared : Comparison → List ℕ → List ℕ → Bool
text_compared comparison s t = meets comparison (slice_cmp nat_cmp s t)

-- What a fault of the code raises, if it isn't want of memory.
abbrev pub raised_in : JoinFault → Option Raised
raised_in NoMemory = None
raised_in (Raises raised) = Some raised
