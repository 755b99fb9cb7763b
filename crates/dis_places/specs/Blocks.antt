-- Blocks of the heap, as the definitions have them.
use Rattle.std.specs.Prelude.{◌≡◌, ℕ, Bool, true, false, List, map, [], ◌∷◌, Option, Some, None, Vec, unwrap_or, slice_get}
use Rattle.std.specs.Global.{Global}
use Rattle.std.specs.Option.{option_map}
use Rattle.dis_file.specs.declared.types.TypeDesc.{TypeDesc}
use Rattle.heap_model.specs.Heap.{Heap}
use Rattle.ref_heap.specs.declared.kind.Kind.{Kind}
use Rattle.ref_heap.specs.declared.kind.Kind.TheVariants as kind
use Rattle.ref_heap.specs.Words as words
use Rattle.ref_heap.specs.Words.{Content, cells, wide, compact, name_of}
use Rattle.ref_heap.specs.Store as store
use Rattle.ref_heap.specs.Store.{Store}
use Rattle.heap_cuts.specs.Shapes.{Shape, shapes}
use Rattle.dis_memory.specs.Blocks.{Block, Record, Text, Array, Part, Cell, Channel, Instance, Sys}
use Rattle.dis_meaning.specs.Words.{Word}
use Rattle.dis_places.specs.declared.memory.Tables.{Tables}
use Rattle.dis_places.specs.Words.{view_cells}

-- What kinds of blocks say by a number: the type of elements, and the names to which the built-in module is linked. A number that stands
-- for nothing is that of elements of no bytes, and of no names.
abbrev pub type_by : Tables → ℕ → TypeDesc
type_by t n = unwrap_or (slice_get t.types.items n) (record { size = 0; map = [] })

abbrev pub names_in : Option (Vec (List ℕ) Global) → List (List ℕ)
names_in None = []
names_in (Some names) = names.items

abbrev pub names_by : Tables → ℕ → List (List ℕ)
names_by t n = names_in (slice_get t.names.items n)

-- The block that the first word refers to, if it refers to one, and the words behind it.
abbrev pub first_name : List words.Cell → Option ℕ
first_name [] = None
first_name (c ∷ cs) = name_of c

abbrev pub behind_first : List words.Cell → List words.Cell
behind_first [] = []
behind_first (c ∷ cs) = cs

-- The numbers that are kept compactly, as characters are.
abbrev pub numbers_of : Content → List ℕ
numbers_of (wide words) = []
numbers_of (compact numbers) = numbers

abbrev pub words_of : Content → List Word
words_of c = view_cells (cells c)

module _ (t : Tables) where
  -- A block by its kind: part of an array has one word, which refers to the array; the first word of a cell refers to the rest.
  abbrev pub block_by : Kind → Content → Block
  block_by kind.Record c = Record (words_of c)
  block_by (kind.Fd number) c = Record (words_of c)
  block_by kind.Text c = Text (numbers_of c)
  block_by (kind.Array element long) c = Array (type_by t element) long (words_of c)
  block_by (kind.Slice from long) c = Part (unwrap_or (first_name (cells c)) 0) from long
  block_by kind.Cell c = Cell (view_cells (behind_first (cells c))) (first_name (cells c))
  block_by (kind.Channel element) c = Channel (type_by t element)
  block_by (kind.Instance object) c = Instance object (words_of c)
  block_by (kind.Sys names) c = Sys (names_by t names)

  abbrev pub view_shape : Shape → Block
  view_shape s = block_by s.0 s.1

  -- Blocks by their serials.
  abbrev pub view_heap : Store → Heap Block
  view_heap h = map (option_map view_shape) (shapes h)

-- ---- what blocks hold by their kinds

abbrev pub is_compact : Content → Bool
is_compact (wide words) = false
is_compact (compact numbers) = true

-- One word that refers to a block; a reference word, and any behind it; none.
abbrev pub refers_on : List words.Cell → Bool
refers_on (words.refer (Some n) ∷ []) = true
refers_on _ = false

abbrev pub begins_with_reference : List words.Cell → Bool
begins_with_reference (words.refer r ∷ cs) = true
begins_with_reference _ = false

abbrev pub is_empty : List words.Cell → Bool
is_empty [] = true
is_empty (c ∷ cs) = false

-- A string has characters alone, part of an array refers to the array, a cell begins with the rest of the list, and a channel and the
-- built-in module have no words.
abbrev pub is_proper : Kind → Content → Bool
is_proper kind.Text c = is_compact c
is_proper (kind.Slice from long) c = refers_on (cells c)
is_proper kind.Cell c = begins_with_reference (cells c)
is_proper (kind.Channel element) c = is_empty (cells c)
is_proper (kind.Sys names) c = is_empty (cells c)
is_proper _ c = true

abbrev pub AreProper : Store → Type 0
AreProper h = (n : ℕ) (b : store.Block) → store.at h n ≡ Some b → is_proper b.kind b.content ≡ true
