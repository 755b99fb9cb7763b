-- The arguments of a format, by the numbers of their words.
use Rattle.std.specs.Prelude.{ℕ, suc, ℤ, List, slice_get}
use Rattle.dis_meaning.specs.Numbers.{joined, nth_number}
use Rattle.dis_meaning.specs.Words.{Word, Access, Found, ◌>>=◌, type_check, or_wrong, reference}
use Rattle.dis_memory.specs.Blocks.{World}
use Rattle.dis_memory.specs.Kinds.{text_at}

-- A big of two words, and the string that a word refers to.
abbrev pub nth_big : List Word → ℕ → Access ℤ
nth_big words k = nth_number words k >>= λ high. nth_number words (suc k) >>= λ low. Found (joined high low)

abbrev pub nth_text : World → List Word → ℕ → Access (List ℕ)
nth_text x words k = or_wrong type_check (slice_get words k) >>= reference >>= text_at x
