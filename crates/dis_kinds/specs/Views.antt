-- What the program finds, as the definitions have it.
use Rattle.std.specs.Prelude.{ℕ, List, [], Option, Some, None}
use Rattle.ref_heap.specs.declared.word.Ref.{Ref}
use Rattle.ref_heap.specs.Words.{Content, cells}
use Rattle.ref_heap.specs.Store.{Block, at}
use Rattle.dis_meaning.specs.Words.{Word, Access, Wrong, ◌>>=◌, type_check}
use Rattle.dis_memory.specs.Blocks.{World, block}
use Rattle.dis_memory.specs.Kinds.{Elements, Linked, all_of}
use Rattle.dis_places.specs.declared.memory.Memory.{Memory}
use Rattle.dis_places.specs.declared.memory.Tables.{Tables}
use Rattle.dis_places.specs.Blocks.{first_name, behind_first, type_by}
use Rattle.dis_places.specs.Regions.{block_words}
use Rattle.dis_places.specs.Words.{view_cells}
use Rattle.dis_kinds.specs.declared.arrays.Elements as code_elements

-- The block that the first word of a block refers to, if it refers to one, and the words behind that word.
abbrev pub first_in : Option Block → Option ℕ
first_in None = None
first_in (Some b) = first_name (cells b.content)

abbrev pub behind_in : Option Block → List Word
behind_in None = []
behind_in (Some b) = view_cells (behind_first (cells b.content))

-- Elements of an array that has these words: the tables tell their type.
abbrev pub elements_by : Tables → List Word → code_elements.Elements → Elements
elements_by t words e = record { array = e.array.serial; element = type_by t e.element; start = e.start; long = e.long; words = words }

abbrev pub view_elements : Memory → code_elements.Elements → Elements
view_elements m e = elements_by m.tables (block_words (at m.heap e.array.serial)) e

-- All elements of the array that a word refers to.
abbrev pub named_elements : World → Option ℕ → Access Elements
named_elements x None = Wrong type_check
named_elements x (Some n) = block x n >>= all_of n

-- A cell of a list.
abbrev pub linked : Content → Linked
linked c = record { element = view_cells (behind_first (cells c)); rest = first_name (cells c) }

abbrev pub view_linked : Memory → Ref → Linked
view_linked m cell = record { element = behind_in (at m.heap cell.serial); rest = first_in (at m.heap cell.serial) }
