-- What holds of words that stand for values.
use Rattle.std.specs.Prelude.{ℕ, pos, ◌+◌, ◌≡◌, ◌<◌, ◌≤◌, ◌⊎◌, ◌%◌, ◌/◌, List, [], ◌∷◌, length, Option, None, Some, take}
use Rattle.std.specs.Int.{next_multiple_of}
use Rattle.std.specs.Prelude.{slice_get, slice_set}
use Rattle.limbo_types.specs.Types.{Ty}
use Rattle.limbo_layout.specs.Adts.{Def, Has}
use Rattle.limbo_layout.specs.Layout.{Room, nothing, all_behind, Laid, AllLaid}
use Rattle.limbo_meaning.specs.Values.{Value, Parts, references, row, fitted, zero_of}
use Rattle.limbo_meaning.specs.Origins.{Name}
use Rattle.limbo_meaning.specs.Places.{value_part, with_part}
use Rattle.core_code.specs.Slots.{without}
use Rattle.core_code.specs.Terms.{part_types}
use Rattle.dis_meaning.specs.Words.{Word, Refer, Found, word_at}
use Rattle.value_words.specs.Facts.{Facts, Grows, IsNamed, IsText}
use Rattle.value_words.specs.Stands.{Stands}
use Rattle.value_words.specs.Contents.{SameBytes, AreInRange, AreBlank, NamesAt}

-- Where part n of a value lies whose parts take these rooms.
abbrev pub offset_of : List Room → ℕ → (r : Room) → ℕ
offset_of rs n r = next_multiple_of (all_behind nothing (take n rs)).size r.align

pub record WordsStand : Type 0 where
  -- memory as it is made stands for zero, for `nil` and for the empty string
  pub zero : (defs : List Def) (facts : Facts) (words : List Word) (at : ℕ) (t : Ty) (r : Room) → Laid defs t r → at % r.align ≡ 0 →
      AreInRange words → AreBlank words at r → Stands defs facts words at t (zero_of defs t)
  -- a value stands for itself as one of its type
  pub whole : (defs : List Def) (facts : Facts) (words : List Word) (at : ℕ) (t : Ty) (r : Room) (v : Value) → Laid defs t r →
      Stands defs facts words at t v → v ≡ fitted defs t v
  -- the same bytes elsewhere stand for the same
  pub moved : (defs : List Def) (facts : Facts) (words others : List Word) (at there : ℕ) (t : Ty) (r : Room) (v : Value) → Laid defs t r →
      there % r.align ≡ 0 → AreInRange words → AreInRange others → SameBytes words at others there r.size → Stands defs facts words at t v →
      Stands defs facts others there t v
  -- so do the same words where more facts are known
  pub later : (defs : List Def) (facts later : Facts) (words : List Word) (at : ℕ) (t : Ty) (v : Value) → Grows facts later →
      Stands defs facts words at t v → Stands defs later words at t v

-- Parts of a tuple, and of an adt's value.
pub record PartsStand : Type 0 where
  pub there : (defs : List Def) (facts : Facts) (words : List Word) (at : ℕ) (t : Ty) (vs : List Value) (rs : List Room) (n : ℕ) (u : Ty)
      (r : Room) → Stands defs facts words at t (Parts (row vs)) → AllLaid defs (part_types defs t) rs →
      slice_get (part_types defs t) n ≡ Some u → slice_get rs n ≡ Some r →
      Stands defs facts words (at + offset_of rs n r) u (value_part n (row vs))
  -- with another one in its place, and all other bytes as they were
  pub replaced : (defs : List Def) (facts : Facts) (words others : List Word) (at : ℕ) (t : Ty) (whole : Room) (v w : Value)
      (rs : List Room) (n : ℕ) (u : Ty) (r : Room) → Stands defs facts words at t v → Laid defs t whole → at % whole.align ≡ 0 →
      AreInRange words → AreInRange others →
      AllLaid defs (part_types defs t) rs → slice_get (part_types defs t) n ≡ Some u → slice_get rs n ≡ Some r →
      ((o : ℕ) → o < offset_of rs n r → SameBytes words (at + o) others (at + o) 1) →
      ((o : ℕ) → offset_of rs n r + r.size ≤ o → o < whole.size → SameBytes words (at + o) others (at + o) 1) →
      Stands defs facts others (at + offset_of rs n r) u w → Stands defs facts others at t (with_part (n ∷ []) w v)

-- References of a value.
pub record NamesStand : Type 0 where
  pub counted : (defs : List Def) (t : Ty) (os : List ℕ) (v : Value) → NamesAt defs t os → length os ≡ length (references (fitted defs t v))
  pub there : (defs : List Def) (facts : Facts) (words : List Word) (at : ℕ) (t : Ty) (v : Value) (os : List ℕ) → NamesAt defs t os →
      Stands defs facts words at t v → (k o : ℕ) (n : Option ℕ) → slice_get os k ≡ Some o → slice_get (references v) k ≡ Some n →
      (r : Option ℕ) × (word_at words (pos (at + o)) ≡ Found (Refer r)) × IsNamed facts r n
  -- each word that refers stands for a reference of the value, or for a string in it
  pub covered : (defs : List Def) (facts : Facts) (words : List Word) (at : ℕ) (t : Ty) (room : Room) (v : Value) → Laid defs t room →
      Stands defs facts words at t v → (o b : ℕ) → Has room.references o → word_at words (pos (at + o)) ≡ Found (Refer (Some b)) →
      ((n : ℕ) × Name (references v) n × IsNamed facts (Some b) (Some n)) ⊎ ((text : List ℕ) × IsText facts (Some b) text)
  -- where such a word comes to refer to nothing, the value is without that reference
  pub dropped : (defs : List Def) (facts : Facts) (words : List Word) (at : ℕ) (t : Ty) (room : Room) (v : Value) (os : List ℕ) →
      NamesAt defs t os → Laid defs t room → at % room.align ≡ 0 → Stands defs facts words at t v → (k o : ℕ) → slice_get os k ≡ Some o →
      Stands defs facts (slice_set words ((at + o) / 4) (Refer None)) at t (without k v)
