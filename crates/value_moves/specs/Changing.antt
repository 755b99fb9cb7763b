-- Single words and numbers that are stored.
use Rattle.std.specs.Prelude.{ℕ, pos, ◌+◌, ◌*◌, ◌≡◌, ◌<◌, ◌≤◌, ◌⊎◌, ◌/◌, ℤ, true, List, length, Option, Some, slice_get, slice_set}
use Rattle.limbo_values.specs.declared.number.Kind.{Kind}
use Rattle.limbo_values.specs.declared.number.Kind.TheVariants.{Byte, Int, Big}
use Rattle.limbo_values.specs.Numbers.{InRange}
use Rattle.dis_meaning.specs.Words.{Word, Refer, Found, word_at, stored, fits}
use Rattle.dis_meaning.specs.Numbers.{number_at, with_number_at}
use Rattle.value_words.specs.Contents.{content, AreInRange}

abbrev pub bytes_in : Kind → ℕ
bytes_in Byte = 1
bytes_in Int = 4
bytes_in Big = 8

-- Of so many bytes from one on something else was stored: all other bytes are as they were, words without such a byte are the very same,
-- and each word keeps its kind.
pub record Changes (target others : List Word) (to size : ℕ) : Type 0 where
  pub many : length others ≡ length target
  pub bytes : (b : ℕ) → (b < to) ⊎ (to + size ≤ b) → content others b ≡ content target b
  pub words : (w : ℕ) → (4 * w + 4 ≤ to) ⊎ (to + size ≤ 4 * w) → slice_get others w ≡ slice_get target w
  pub refer : (w : ℕ) (r : Option ℕ) → slice_get others w ≡ Some (Refer r) → (s : Option ℕ) × (slice_get target w ≡ Some (Refer s))
  pub referred : (w : ℕ) (s : Option ℕ) → slice_get target w ≡ Some (Refer s) → (r : Option ℕ) × (slice_get others w ≡ Some (Refer r))

-- A number is stored: the words after it.
pub record NumberStored (kind : Kind) (target : List Word) (to : ℕ) (z : ℤ) : Type 0 where
  pub others : List Word
  pub found : with_number_at kind target (pos to) z ≡ Found others
  -- one in the range of its kind is read again
  pub there : InRange kind z → number_at kind others (pos to) ≡ Found z
  -- of a byte's word the others stay where it is one
  pub changes : (kind ≡ Byte → InRange kind z) → Changes target others to (bytes_in kind)
  pub ranged : InRange kind z → AreInRange target → AreInRange others

pub record WordsChange : Type 0 where
  -- a word where one of its kind stands
  pub word : (target : List Word) (to : ℕ) (old new : Word) → word_at target (pos to) ≡ Found old → fits old new ≡ true →
      (stored target (pos to) new ≡ Found (slice_set target (to / 4) new))
      × (word_at (slice_set target (to / 4) new) (pos to) ≡ Found new)
      × Changes target (slice_set target (to / 4) new) to 4
  -- a number where one of its kind is read
  pub number : (kind : Kind) (target : List Word) (to : ℕ) (old z : ℤ) → number_at kind target (pos to) ≡ Found old →
      NumberStored kind target to z
