-- What a reference leads to, as the instructions ask for it: strings, arrays, lists.
use Rattle.std.specs.Prelude.{ℕ, zero, suc, ◌+◌, List, [], length, Option, Some, None}
use Rattle.dis_file.specs.declared.types.TypeDesc.{TypeDesc}
use Rattle.dis_meaning.specs.Words.{Word, Access, Found, Wrong, ◌>>=◌, type_check}
use Rattle.dis_memory.specs.Blocks.{Block, Text, Array, Part, Cell, World, block}

-- ---- strings

abbrev pub text_in : Block → Access (List ℕ)
text_in (Text chars) = Found chars
text_in _ = Wrong type_check

-- The string that a reference leads to. That of nil is empty.
abbrev pub text_at : World → Option ℕ → Access (List ℕ)
text_at x None = Found []
text_at x (Some n) = block x n >>= text_in

-- ---- arrays

-- Elements of an array: whose they are, the type of each, where they begin in it, and how many there are.
pub record Elements : Type 0 where
  pub array : ℕ
  pub element : TypeDesc
  pub start : ℕ
  pub long : ℕ
  pub words : List Word

abbrev pub all_of : (serial : ℕ) → Block → Access Elements
all_of n (Array element long words) =
    Found (record { array = n; element = element; start = 0; long = long; words = words })
all_of n _ = Wrong type_check

-- So many elements of an array, from one on.
abbrev pub some_of : (start long : ℕ) → Elements → Elements
some_of start long e =
    record { array = e.array; element = e.element; start = e.start + start; long = long; words = e.words }

abbrev pub elements_in : World → (serial : ℕ) → Block → Access Elements
elements_in x n (Part array start long) = block x array >>= all_of array >>= λ e. Found (some_of start long e)
elements_in x n b = all_of n b

-- The elements that a reference leads to, of the array itself or of part of it. Nil has none.
abbrev pub elements_at : World → Option ℕ → Access (Option Elements)
elements_at x None = Found None
elements_at x (Some n) = block x n >>= elements_in x n >>= λ e. Found (Some e)

abbrev pub length_of : Option Elements → ℕ
length_of None = 0
length_of (Some e) = e.long

-- ---- lists

-- A cell, by the words of its element and the rest of its list.
pub record Linked : Type 0 where
  pub element : List Word
  pub rest : Option ℕ

abbrev pub cell_in : Block → Access Linked
cell_in (Cell element rest) = Found (record { element = element; rest = rest })
cell_in _ = Wrong type_check

-- The first cell of a list. Nil has none.
abbrev pub first_cell : World → Option ℕ → Access (Option Linked)
first_cell x None = Found None
first_cell x (Some n) = block x n >>= cell_in >>= λ c. Found (Some c)

-- How many cells a list has, of which there are at most so many.
abbrev pub cells_from : World → (most : ℕ) → Option ℕ → Access ℕ
cells_from x most None = Found 0
cells_from x zero (Some n) = Wrong type_check
cells_from x (suc k) (Some n) = block x n >>= cell_in >>= λ c. cells_from x k c.rest >>= λ m. Found (suc m)

-- No list has more cells than there are blocks.
abbrev pub list_length : World → Option ℕ → Access ℕ
list_length x r = cells_from x (length x.heap) r
