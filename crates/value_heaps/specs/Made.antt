-- Memory that the machine makes for values of a type.
use Rattle.std.specs.Prelude.{ℕ, ◌*◌, ◌≡◌, ◌<◌, List}
use Rattle.std.specs.Int.{next_multiple_of}
use Rattle.limbo_types.specs.Types.{Ty}
use Rattle.limbo_layout.specs.Adts.{Def}
use Rattle.limbo_layout.specs.Layout.{Room, Laid, is_in}
use Rattle.limbo_meaning.specs.Values.{zero_of}
use Rattle.dis_file.specs.declared.types.TypeDesc.{TypeDesc}
use Rattle.dis_file.specs.References as file
use Rattle.dis_meaning.specs.Words.{Word, blank}
use Rattle.dis_memory.specs.Blocks.{Array, blank_array}
use Rattle.value_words.specs.Contents.{AreInRange, AreBlank}
use Rattle.value_words.specs.Facts.{Facts}
use Rattle.value_words.specs.Stands.{Stands}
use Rattle.value_heaps.specs.Types.{desc_of}

-- The type of a record for a value takes whole words.
abbrev pub record_desc : Room → TypeDesc
record_desc r = record { size = next_multiple_of r.size 4; map = (desc_of r).map }

-- What holds of it, for each type that has a layout.
pub record MadeBlank : Type 0 where
  -- the words that refer are those at the offsets of a room's references
  pub marks : (defs : List Def) (t : Ty) (r : Room) (w : ℕ) → Laid defs t r →
      file.marks (desc_of r).map w ≡ is_in (4 * w) r.references
  -- a new record is blank for its value
  pub records : (defs : List Def) (t : Ty) (r : Room) → Laid defs t r →
      AreInRange (blank (record_desc r)) × AreBlank (blank (record_desc r)) 0 r
  -- and so is each element of a new array
  pub arrays : (defs : List Def) (t : Ty) (r : Room) (n : ℕ) (words : List Word) → Laid defs t r →
      blank_array (desc_of r) n ≡ Array (desc_of r) n words →
      AreInRange words × ((i : ℕ) → i < n → AreBlank words (i * r.size) r)
  -- so they stand for zero
  pub new_record : (defs : List Def) (facts : Facts) (t : Ty) (r : Room) → Laid defs t r →
      Stands defs facts (blank (record_desc r)) 0 t (zero_of defs t)
  pub new_array : (defs : List Def) (facts : Facts) (t : Ty) (r : Room) (n : ℕ) (words : List Word) → Laid defs t r →
      blank_array (desc_of r) n ≡ Array (desc_of r) n words → (i : ℕ) → i < n →
      Stands defs facts words (i * r.size) t (zero_of defs t)
