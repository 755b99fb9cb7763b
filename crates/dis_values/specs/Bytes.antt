-- Arrays of bytes (Limbo Language Reference, arrays; Dis Virtual Machine Specification, "Data representations").
use Rattle.std.specs.Prelude.{◌≡◌, ◌≢◌, ℕ, zero, suc, ◌*◌, ◌+◌, ◌/◌, ◌%◌, ◌≤◌, List, [], ◌∷◌, map, length, slice_get, Option, Some, None}
use Rattle.ref_heap.specs.Words.{Cell, plain, compact}
use Rattle.ref_heap.specs.Store.{Store, Block, at, words_of, with_block, with_content}
use Rattle.dis_values.specs.Arrays.{byte_in, part_of, IsArray, IsWhole}

-- Byte i of these words.
abbrev pub byte_of : List Cell → ℕ → ℕ
byte_of words i = byte_in (i % 4) (slice_get words (i / 4))

-- the bytes from i on, so many
abbrev pub bytes_in : List Cell → ℕ → ℕ → List ℕ
bytes_in words i zero = []
bytes_in words i (suc n) = byte_of words i ∷ bytes_in words (suc i) n

abbrev pub bytes_by : Option Block → ℕ → ℕ → List ℕ
bytes_by None from length = []
bytes_by (Some b) from length = bytes_in (words_of b) from length

-- The list of bytes that a reference to an array of bytes, or to a slice of one, stands for.
abbrev pub bytes_of : Store → ℕ → List ℕ
bytes_of h s = bytes_by (at h (part_of h s).array) (part_of h s).from (part_of h s).length

-- Block k is live, and keeps so many bytes or more as numbers, four in each.
pub record HasBytes (h : Store) (k bytes : ℕ) : Type 0 where
  pub block : Block
  pub live : at h k ≡ Some block
  pub numbers : List ℕ
  pub content : block.content ≡ compact numbers
  pub enough : bytes ≤ 4 * length numbers

-- A reference to an array or to a slice of one, whose elements take so many bytes and hold no references: they are kept as numbers.
pub record IsPlain (h : Store) (s size : ℕ) : Type 0 where
  pub length : ℕ
  pub whole : IsWhole h (part_of h s).array size length
  pub within : (part_of h s).from + (part_of h s).length ≤ length
  pub kept : HasBytes h (part_of h s).array (size * length)

abbrev pub as_array : (h : Store) (s size : ℕ) → IsPlain h s size → IsArray h s
as_array h s size a = record { size = size; length = a.length; whole = a.whole; within = a.within }

-- Byte i of block k becomes another; each other byte and all other blocks are as they were.
pub record SetsByte (old new : Store) (k i value : ℕ) : Type 0 where
  pub block : Block
  pub live : at old k ≡ Some block
  pub numbers : List ℕ
  pub changed : new ≡ with_block old k (with_content block (compact numbers))
  pub size : length numbers ≡ length (words_of block)
  pub here : byte_of (map plain numbers) i ≡ value
  pub apart : (j : ℕ) → j ≢ i → byte_of (map plain numbers) j ≡ byte_of (words_of block) j
