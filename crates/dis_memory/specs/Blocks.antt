-- Blocks of memory, each with its kind, and what processes share (Dis Virtual Machine Specification, "Data representations").
use Rattle.std.specs.Prelude.{ℕ, ◌+◌, ◌*◌, ◌/◌, ◌%◌, Bool, false, ◌==◌, ◌&&◌, ◌||◌, List, [], ◌∷◌, ◌++◌, length, map}
use Rattle.std.specs.Prelude.{Option, Some, None, pos, if◌then◌else◌, slice_set}
use Rattle.std.specs.List.{range_with_len}
use Rattle.dis_file.specs.declared.types.TypeDesc.{TypeDesc}
use Rattle.dis_file.specs.References.{marks}
use Rattle.heap_model.specs.Heap.{Heap, at}
use Rattle.heap_model.specs.Joined as joined
use Rattle.system_model.specs.World as outside
use Rattle.dis_meaning.specs.Words.{Word, Plain, Refer, Access, Found, Wrong, type_check, dead_address, or_wrong}

-- What a block is: a record; a string; an array, whose elements are of a type and lie one behind the other; part of an array, of so many
-- elements from one on; a cell of a list, with the words of its element and the rest of the list; a channel for elements of a type, over
-- which nothing goes yet; the data of an instance of an object; the built-in module Sys, linked to the names of an import table. A block
-- keeps its kind.
pub data Block : Type 0 where
  Record : List Word → Block
  Text : List ℕ → Block
  Array : (element : TypeDesc) → (long : ℕ) → List Word → Block
  Part : (array start long : ℕ) → Block
  Cell : (element : List Word) → (rest : Option ℕ) → Block
  Channel : TypeDesc → Block
  Instance : (object : ℕ) → List Word → Block
  Sys : List (List ℕ) → Block

-- How many frames were made so far, by all processes: the next one gets this number as its serial. And the outside: files and links.
pub record Outer : Type 0 where
  pub frames : ℕ
  pub outside : outside.World

-- Blocks by their serials, each of which is used once: the place of a block that has gone stays empty.
abbrev pub World : Type 0
World = joined.World Block Outer

abbrev pub with_heap : World → Heap Block → World
with_heap x h = record { heap = h; outside = x.outside }

-- The block of this serial.
abbrev pub block : World → ℕ → Access Block
block x n = or_wrong dead_address (at x.heap n)

-- A new block, and the serial that it gets.
abbrev pub next_serial : World → ℕ
next_serial x = length x.heap

abbrev pub with_block : World → Block → World
with_block x b = with_heap x (x.heap ++ Some b ∷ [])

-- The block of this serial, which is there, is another one.
abbrev pub with_changed : World → ℕ → Block → World
with_changed x n b = with_heap x (slice_set x.heap n (Some b))

-- ---- the words of a block

-- The words that operands reach: those of records, of arrays and of an instance's data.
abbrev pub reached : Block → Access (List Word)
reached (Record words) = Found words
reached (Array element long words) = Found words
reached (Instance object words) = Found words
reached _ = Wrong type_check

abbrev pub with_words : List Word → Block → Block
with_words words (Record old) = Record words
with_words words (Array element long old) = Array element long words
with_words words (Instance object old) = Instance object words
with_words words b = b

-- All words that a block has: an array is named by the parts of it, and the rest of a list by its first cell.
abbrev pub words_in : Block → List Word
words_in (Record words) = words
words_in (Text chars) = []
words_in (Array element long words) = words
words_in (Part array start long) = Refer (Some array) ∷ []
words_in (Cell element rest) = Refer rest ∷ element
words_in (Channel element) = []
words_in (Instance object words) = words
words_in (Sys names) = []

-- ---- arrays as they are made

-- The bytes and the words that so many elements take.
abbrev pub bytes_for : TypeDesc → ℕ → ℕ
bytes_for element long = element.size * long

abbrev pub words_for : TypeDesc → ℕ → ℕ
words_for element long = (bytes_for element long + 3) / 4

-- The word at a byte of an element, if that is one of its words: the elements of an array follow one another without a gap.
abbrev pub blank_at : TypeDesc → (byte : ℕ) → Word
blank_at element byte = if byte % 4 == 0 && marks element.map (byte / 4) then Refer None else Plain (pos 0)

-- Word k of an array as it is made.
abbrev pub blank_word : TypeDesc → ℕ → Word
blank_word element k = blank_at element ((4 * k) % element.size)

abbrev pub blank_array : TypeDesc → (long : ℕ) → Block
blank_array element long = Array element long (map (blank_word element) (range_with_len 0 (words_for element long)))

-- Whether words of a type refer to anything.
abbrev pub any_marked : TypeDesc → (words : List ℕ) → Bool
any_marked desc [] = false
any_marked desc (k ∷ ks) = marks desc.map k || any_marked desc ks

abbrev pub refers : TypeDesc → Bool
refers desc = any_marked desc (range_with_len 0 (desc.size / 4))

-- The most bytes that the elements of an array take.
abbrev pub most_bytes : ℕ
most_bytes = 268435456
