-- Elements of an array that go over those of another.
use Rattle.std.specs.Prelude.{◌≡◌, ℕ, ℤ, ◌+◌, ◌*◌, ◌/◌, Option}
use Rattle.dis_meaning.specs.Words.{Access, Found, ◌>>=◌}
use Rattle.dis_meaning.specs.Process.{Process}
use Rattle.limbo_values.specs.Texts.{bounds_in}
use Rattle.dis_memory.specs.Arrays.{copied, end_from}
use Rattle.dis_memory.specs.Blocks.{World}
use Rattle.dis_memory.specs.Copies.{moved, put, taken}
use Rattle.dis_memory.specs.Kinds.{Elements, length_of}
use Rattle.dis_memory.specs.Places.{memory, data_at, with_data}
use Rattle.dis_memory.specs.Process.{Does, next}
use Rattle.dis_memory.specs.Raising.{unless_raised}

-- The words of elements are those of their array.
abbrev pub IsArray : World → Elements → Type 0
IsArray x e = data_at x e.array ≡ Found e.words

module _ (x : World) (p : Process) (s t : Elements) (at : ℕ) where
  -- Their words with the references in them, and their bytes.
  abbrev pub words_over : Access Does
  words_over =
      taken s.words (s.start * (s.element.size / 4)) (s.long * (s.element.size / 4))
      >>= put t.words ((t.start + at) * (t.element.size / 4)) >>= λ words.
      with_data x t.array words >>= λ y.
      Found (next (memory y p))

  abbrev pub bytes_over : Access Does
  bytes_over =
      moved s.words (s.start * s.element.size) t.words ((t.start + at) * t.element.size) (s.long * s.element.size) >>= λ words.
      with_data x t.array words >>= λ y.
      Found (next (memory y p))

-- They go over others from one on, which stay within, or what is wrong with that is raised.
abbrev pub sliced : World → Process → (source target : Option Elements) → (at : ℤ) → Access Does
sliced x p s t at = unless_raised (bounds_in (length_of t) at (end_from at (length_of s))) >>= λ b. copied x p s t b.0
