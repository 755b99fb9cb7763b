-- Words that are kept as numbers.
use Rattle.std.specs.Prelude.{ℕ, List, map}
use Rattle.ref_heap.specs.Words.{plain}
use Rattle.dis_meaning.specs.Words.{Word}
use Rattle.dis_places.specs.Words.{view_cells}

-- Numbers of 32 bits as plain words.
abbrev pub words_of : List ℕ → List Word
words_of numbers = view_cells (map plain numbers)
