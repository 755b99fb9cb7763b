-- Words in which bytes lie.
use Rattle.std.specs.Prelude.{ℕ, zero, suc, ◌+◌, ◌/◌, ◌%◌, List}
use Rattle.dis_meaning.specs.Words.{Word, Access, ◌>>=◌}
use Rattle.dis_memory.specs.Copies.{bytes_from, put_bytes}

-- How many words so many bytes touch, from one on.
abbrev pub touched : (to count : ℕ) → ℕ
touched to zero = 0
touched to (suc n) = (to % 4 + suc n + 3) / 4

-- Each byte goes.
abbrev pub bytes_moved : (source : List Word) → (from : ℕ) → (target : List Word) → (to count : ℕ) → Access (List Word)
bytes_moved source from target to count = bytes_from source from count >>= put_bytes target to
