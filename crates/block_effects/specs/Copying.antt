-- What comes of words and bytes that instructions take, put and move, and when they can.
use Rattle.std.specs.Prelude.{ℕ, pos, ◌+◌, ◌*◌, ◌/◌, ◌≡◌, ◌<◌, ◌≤◌, ℤ, true, false, List, length, Option, Some, slice_get, nat_le}
use Rattle.dis_file.specs.declared.types.TypeDesc.{TypeDesc}
use Rattle.dis_file.specs.References.{marks}
use Rattle.limbo_values.specs.declared.number.Kind.TheVariants.{Byte}
use Rattle.dis_meaning.specs.Words.{Word, Refer, Found, Raises, blank, fits}
use Rattle.dis_meaning.specs.Numbers.{number_at}
use Rattle.dis_memory.specs.Blocks.{Array, bytes_for, most_bytes}
use Rattle.dis_memory.specs.Raising.{large_text}
use Rattle.dis_memory.specs.Kinds.{Elements}
use Rattle.dis_memory.specs.Copies as copies
use Rattle.dis_memory.specs.Copies.{typed_words, as_marked, bytes_from}
use Rattle.dis_memory.specs.Lists.{plain_type}
use Rattle.dis_memory.specs.Strings.{bytes_in, array_of, byte_type}
use Rattle.value_words.specs.Contents.{AreInRange}
use Rattle.value_moves.specs.Writing.{Writes}

-- These are so many words from one on.
pub record AreTaken (source : List Word) (from count : ℕ) (vs : List Word) : Type 0 where
  pub long : length vs ≡ count
  pub each : (j : ℕ) (v : Word) → slice_get vs j ≡ Some v → slice_get source (from + j) ≡ Some v

-- A number stands where a byte lies.
abbrev pub HasByte : List Word → (byte : ℕ) → Type 0
HasByte words n = (z : ℤ) × (number_at Byte words (pos n) ≡ Found z)

-- A word stands there as a type marks it.
abbrev pub HasMarked : TypeDesc → List Word → (from word : ℕ) → Type 0
HasMarked desc source from j = (v : Word) × (slice_get source (from + j) ≡ Some v) × (as_marked (marks desc.map j) v ≡ Found v)

-- A word stands there that takes this one.
abbrev pub HasFitting : List Word → (word : ℕ) → Word → Type 0
HasFitting target k v = (old : Word) × (slice_get target k ≡ Some old) × (fits old v ≡ true)

pub record WordsAreCopied : Type 0 where
  -- words of a type, each as the type marks it, and words of whatever kind
  pub typed : (desc : TypeDesc) (source vs : List Word) (from : ℕ) → typed_words desc source from ≡ Found vs →
      AreTaken source from (desc.size / 4) vs
  pub marked : (desc : TypeDesc) (source vs : List Word) (from : ℕ) → typed_words desc source from ≡ Found vs →
      (j : ℕ) (v : Word) → slice_get vs j ≡ Some v → as_marked (marks desc.map j) v ≡ Found v
  pub can_type : (desc : TypeDesc) (source : List Word) (from : ℕ) → ((j : ℕ) → j < desc.size / 4 → HasMarked desc source from j) →
      (vs : List Word) × (typed_words desc source from ≡ Found vs)
  pub taken : (source vs : List Word) (from count : ℕ) → copies.taken source from count ≡ Found vs → AreTaken source from count vs
  pub can_take : (source : List Word) (from count : ℕ) → from + count ≤ length source →
      (vs : List Word) × (copies.taken source from count ≡ Found vs)
  -- that are put over others
  pub put : (source target vs others : List Word) (from to count : ℕ) → AreTaken source from count vs →
      copies.put target to vs ≡ Found others → Writes target others (4 * to) source (4 * from) (4 * count)
  pub can_put : (target vs : List Word) (to : ℕ) → ((j : ℕ) (v : Word) → slice_get vs j ≡ Some v → HasFitting target (to + j) v) →
      (others : List Word) × (copies.put target to vs ≡ Found others)
  -- bytes that are moved, and those of a new cell
  pub moved : (source target others : List Word) (from to count : ℕ) → copies.moved source from target to count ≡ Found others →
      Writes target others to source from count
  pub can_move : (source target : List Word) (from to count : ℕ) → ((j : ℕ) → j < count → HasByte source (from + j)) →
      ((j : ℕ) → j < count → HasByte target (to + j)) → (others : List Word) × (copies.moved source from target to count ≡ Found others)
  pub can_begin : (count j : ℕ) → j < count → HasByte (blank (plain_type count)) j

-- An array of these bytes.
pub record IsOfBytes (bs : List ℕ) (words : List Word) : Type 0 where
  pub found : array_of bs ≡ Found (Array byte_type (length bs) words)
  pub each : (j b : ℕ) → slice_get bs j ≡ Some b → number_at Byte words (pos j) ≡ Found (pos b)
  pub many : length words ≡ (length bs + 3) / 4
  pub plain : (w : ℕ) (r : Option ℕ) → slice_get words w ≡ Some (Refer r) → ⊥
  pub ranged : AreInRange words

pub record BytesAreCopied : Type 0 where
  -- bytes that stand in words are read there
  pub read : (words : List Word) (from : ℕ) (bs : List ℕ) →
      ((j b : ℕ) → slice_get bs j ≡ Some b → number_at Byte words (pos (from + j)) ≡ Found (pos b)) →
      bytes_from words from (length bs) ≡ Found bs
  pub read_in : (e : Elements) (bs : List ℕ) → e.element.size ≡ 1 → e.long ≡ length bs →
      ((j b : ℕ) → slice_get bs j ≡ Some b → number_at Byte e.words (pos (e.start + j)) ≡ Found (pos b)) → bytes_in (Some e) ≡ Found bs
  -- and make an array, unless there are too many
  pub array : (bs : List ℕ) → nat_le (bytes_for byte_type (length bs)) most_bytes ≡ true →
      ((j b : ℕ) → slice_get bs j ≡ Some b → b < 256) → (words : List Word) × IsOfBytes bs words
  pub too_many : (bs : List ℕ) → nat_le (bytes_for byte_type (length bs)) most_bytes ≡ false → array_of bs ≡ Raises large_text
