-- Arrays and slices on blocks (Limbo Language Reference, arrays; Dis Virtual Machine Specification, "Arrays").
use Rattle.std.specs.Prelude.{◌≡◌, ℕ, zero, suc, ◌+◌, ◌-◌, ◌*◌, ◌/◌, ◌%◌, ◌^◌, ◌<◌, ◌≤◌, ◌==◌, ◌&&◌, if◌then◌else◌, Bool, true, false, List, [], ◌∷◌, take, drop, replicate, slice_get, Option, Some, None}
use Rattle.ref_heap.specs.declared.kind.Kind.{Kind}
use Rattle.ref_heap.specs.declared.kind.Kind.TheVariants.{Array, Slice}
use Rattle.ref_heap.specs.Words.{Cell, Content, plain, refer, in_block, in_frame, wide, compact}
use Rattle.ref_heap.specs.Store.{Store, Block, at, outside, one, words_of, fresh, one_more, with_block, with_new}

-- the mark of word k, and none past the map's end
abbrev pub or_false : Option Bool → Bool
or_false None = false
or_false (Some b) = b

abbrev pub is_marked : List Bool → ℕ → Bool
is_marked map k = or_false (slice_get map k)

abbrev pub any_marked : List Bool → Bool
any_marked [] = false
any_marked (true ∷ map) = true
any_marked (false ∷ map) = any_marked map

-- The map marks no word past the element.
abbrev pub IsWithin : List Bool → ℕ → Type 0
IsWithin map size = (k : ℕ) → is_marked map k ≡ true → 4 * k + 4 ≤ size

-- how many words the elements take
abbrev pub words_for : ℕ → ℕ → ℕ
words_for size length = (size * length + 3) / 4

-- Word j of a zeroed array: it begins at some byte of an element, and is a reference word where the map marks the word there.
abbrev pub zeroed_at : ℕ → List Bool → ℕ → Cell
zeroed_at size map byte = if byte % 4 == 0 && is_marked map (byte / 4) then refer None else plain 0

abbrev pub zeroed_word : ℕ → List Bool → ℕ → Cell
zeroed_word size map j = zeroed_at size map (4 * j % size)

-- the words from j on, so many
abbrev pub zeroed_words : ℕ → List Bool → ℕ → ℕ → List Cell
zeroed_words size map j zero = []
zeroed_words size map j (suc n) = zeroed_word size map j ∷ zeroed_words size map (suc j) n

-- A zeroed array. Where no word is a reference its numbers are kept compactly.
abbrev pub zeroed : ℕ → List Bool → ℕ → Content
zeroed size map length = if any_marked map then wide (zeroed_words size map 0 (words_for size length)) else compact (replicate (words_for size length) 0)

-- The part of an array that a reference stands for: the array itself, where the part begins in it, and its length.
pub record Part : Type 0 where
  pub array : ℕ
  pub from : ℕ
  pub length : ℕ

-- the block that the first word refers to
abbrev pub first_name : ℕ → List Cell → ℕ
first_name s [] = s
first_name s (plain v ∷ words) = s
first_name s (refer None ∷ words) = s
first_name s (refer (Some a) ∷ words) = a
first_name s (in_block b v ∷ words) = s
first_name s (in_frame f v ∷ words) = s

abbrev pub part_by : ℕ → Kind → List Cell → Part
part_by s (Array size length) words = record { array = s; from = 0; length = length }
part_by s (Slice from length) words = record { array = first_name s words; from = from; length = length }
part_by s _ words = record { array = s; from = 0; length = 0 }

abbrev pub part_in : ℕ → Option Block → Part
part_in s None = record { array = s; from = 0; length = 0 }
part_in s (Some b) = part_by s b.kind (words_of b)

-- An array stands for the whole of itself, and a slice for a part of the array that it refers to.
abbrev pub part_of : Store → ℕ → Part
part_of h s = part_in s (at h s)

abbrev pub length_of : Store → Option ℕ → ℕ
length_of h None = 0
length_of h (Some s) = (part_of h s).length

-- A block that is an array, with how many bytes an element takes; it has no more bytes than an array may have.
pub record IsWhole (h : Store) (s size length : ℕ) : Type 0 where
  pub block : Block
  pub live : at h s ≡ Some block
  pub kind : block.kind ≡ Array size length
  pub bytes : size * length ≤ 268435456
  pub small : length < 2 ^ 32

-- A reference to an array or a slice: what it stands for lies in an array.
pub record IsArray (h : Store) (s : ℕ) : Type 0 where
  pub size : ℕ
  pub length : ℕ
  pub whole : IsWhole h (part_of h s).array size length
  pub within : (part_of h s).from + (part_of h s).length ≤ length

-- Byte i of these words; the most significant of a word is the first.
abbrev pub byte_in : ℕ → Option Cell → ℕ
byte_in i None = 0
byte_in i (Some (plain v)) = v / 256 ^ (3 - i) % 256
byte_in i (Some (refer r)) = 0
byte_in i (Some (in_block s v)) = 0
byte_in i (Some (in_frame s v)) = 0

-- Element i of these words: a byte, or so many whole words.
abbrev pub element : ℕ → List Cell → ℕ → List Cell
element size words i = if size == 1 then plain (byte_in (i % 4) (slice_get words (i / 4))) ∷ [] else take (size / 4) (drop (i * (size / 4)) words)

-- the elements from i on, so many
abbrev pub elements_in : ℕ → List Cell → ℕ → ℕ → List (List Cell)
elements_in size words i zero = []
elements_in size words i (suc n) = element size words i ∷ elements_in size words (suc i) n

abbrev pub size_of : Kind → ℕ
size_of (Array size length) = size
size_of _ = 0

abbrev pub elements_by : Option Block → ℕ → ℕ → List (List Cell)
elements_by None from length = []
elements_by (Some b) from length = elements_in (size_of b.kind) (words_of b) from length

-- The list of elements that a reference to an array or a slice stands for.
abbrev pub elements : Store → ℕ → List (List Cell)
elements h s = elements_by (at h (part_of h s).array) (part_of h s).from (part_of h s).length

-- Element i of what a reference stands for begins at this byte of this array.
pub record IsElement (h : Store) (s i array byte : ℕ) : Type 0 where
  pub size : ℕ
  pub length : ℕ
  pub whole : IsWhole h array size length
  pub same : array ≡ (part_of h s).array
  pub byte_is : byte ≡ size * ((part_of h s).from + i)

-- A slice is made, which refers to the array itself; there is one reference more to that.
pub record Slices (old new : Store) (part : Part) (from to made : ℕ) : Type 0 where
  pub block : Block
  pub live : at old part.array ≡ Some block
  pub serial : made ≡ old.made
  pub makes : new ≡ with_new (with_block old part.array (one_more block)) (fresh (Slice (part.from + from) (to - from)) (wide (refer (Some part.array) ∷ [])))
  pub held : (n : ℕ) → outside new n ≡ outside old n + one made n
