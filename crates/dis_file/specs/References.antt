-- Which words of a type are references (dis(6), "Type section").
use Rattle.std.specs.Prelude.{ℕ, ◌-◌, ◌/◌, ◌%◌, ◌^◌, ◌==◌, Bool, List, slice_index}

-- Whether a type's map marks a word as a reference: the map has a bit for each word, from the top bit of the first
-- byte on. Words past the map are plain, as `slice_index` is 0 past the end.
abbrev pub marks : List ℕ → ℕ → Bool
marks map word = (slice_index map (word / 8) / 2 ^ (7 - word % 8)) % 2 == 1
